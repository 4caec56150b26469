-- `scan` finds the first of each kind as long as no start ties, in the window that its numbers stand for.
use mathlib.Core.List.{map}
use Prim.Native.Nat.{◌≤◌}
use Rattle.run_window.specs.declared.Sought.{Sought}
use Rattle.run_window.proofs.Laws.Scans.{FirstFrom}
use Rattle.held.specs.Held.{entry_of}
use Rattle.held_checks.proofs.places.scan.Given as goal

abbrev pub invariant-loop-i : goal.invariant-loop-i
invariant-loop-i l = (l.i ≤ 512)
    × FirstFrom (Sought.Overdue l.psi l.t) (map entry_of l.held) l.i l.overdue
    × FirstFrom (Sought.Late l.psi l.slack l.t) (map entry_of l.held) l.i l.late
    × FirstFrom l.sought (map entry_of l.held) l.i l.best
