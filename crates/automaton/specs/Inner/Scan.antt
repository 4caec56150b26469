-- What the contracts behind `Laws/Scan` cite.
use Rattle.std.specs.Prelude.{List, ℕ, ◌-◌}
use Rattle.basis.specs.Parts.{part}
use Rattle.plan.specs.declared.Transition.{Transition}
use Rattle.plan.specs.Plan.{past_move}

-- the transitions from i on, of n
abbrev pub rest : List Transition → ℕ → ℕ → List Transition
rest l i n = part past_move l i (n - i)
