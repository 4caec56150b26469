-- `keeps` looks at all transitions of reached states.
use Rattle.basis.specs.Tests.{flag}
use Rattle.automaton_counts.specs.Inner.Emits.{gives}
use Rattle.automaton.specs.Inner.Counts.{Kept}
use Rattle.plan.specs.Plan.{move}
use mathlib.Core.Bool.{true}
use Prim.Native.Nat.{ℕ, ◌<◌}
use mathlib.Core.Path.{◌≡◌}
use Rattle.automaton_counts.proofs.keeps.Given as goal

abbrev pub invariant-loop-t : goal.invariant-loop-t
invariant-loop-t l = (j : ℕ) → j < l.t-index → (e : ℕ) → e < 16 → flag l.x.reached (move l.a j).from ≡ true → Kept (gives l.emits.table) l.x.counts (move l.a j) e
