-- `look_by_rank` finds the first of each kind: from the back, the best so far is the first of the places passed.
use mathlib.Core.Path.{◌≡◌}
use Rattle.run_window.specs.declared.Sought.{Sought}
use Rattle.run_window.proofs.Laws.Scans.{ranked_from}
use Rattle.run_window.proofs.search.look_by_rank.Given as goal

abbrev pub invariant-loop-i : goal.invariant-loop-i
invariant-loop-i l = (l.overdue ≡ ranked_from l.nodes (Sought.Overdue l.psi l.t) l.window l.i)
    × (l.late ≡ ranked_from l.nodes (Sought.Late l.psi l.slack l.t) l.window l.i)
    × (l.best ≡ ranked_from l.nodes l.sought l.window l.i)
