use mathlib.Core.Path.{◌≡◌}
use Prim.Native.Nat.{◌+◌, ◌-◌}
use Rattle.run_outcomes.specs.Told.{told_from}
use Rattle.run_outcomes.proofs.told_from.Given as goal

abbrev pub invariant-loop-i : goal.invariant-loop-i
invariant-loop-i l =
    told_from l.position l.node l.o l.from l.count l.fn.pending ≡ told_from l.position l.node l.o l.i (l.from + l.count - l.i) l.pending
