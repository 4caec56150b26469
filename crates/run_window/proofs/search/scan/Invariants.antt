-- `scan` finds the first of each kind as long as no start ties: then no rank decides.
use Rattle.run_window.specs.declared.Sought.{Sought}
use Rattle.run_window.proofs.Laws.Scans.{FirstFrom}
use Rattle.run_window.proofs.search.scan.Given as goal

abbrev pub invariant-loop-i : goal.invariant-loop-i
invariant-loop-i l = FirstFrom (Sought.Overdue l.psi l.t) l.window l.i l.overdue
    × FirstFrom (Sought.Late l.psi l.slack l.t) l.window l.i l.late
    × FirstFrom l.sought l.window l.i l.best
