-- `look_by_rank` finds the first of each kind, by the ranks of the nodes, in the window and the nodes that their numbers stand for.
use mathlib.Core.Path.{◌≡◌}
use mathlib.Core.List.{map}
use Prim.Native.Nat.{◌≤◌}
use Rattle.run_window.specs.declared.Sought.{Sought}
use Rattle.run_window.proofs.Laws.Scans.{ranked_from}
use Rattle.held.specs.Held.{entry_of, node_of}
use Rattle.held_checks.proofs.places.look_by_rank.Given as goal

abbrev pub invariant-loop-i : goal.invariant-loop-i
invariant-loop-i l = (l.i ≤ 512)
    × (l.overdue ≡ ranked_from (map node_of l.held_nodes) (Sought.Overdue l.psi l.t) (map entry_of l.held_window) l.i)
    × (l.late ≡ ranked_from (map node_of l.held_nodes) (Sought.Late l.psi l.slack l.t) (map entry_of l.held_window) l.i)
    × (l.best ≡ ranked_from (map node_of l.held_nodes) l.sought (map entry_of l.held_window) l.i)
