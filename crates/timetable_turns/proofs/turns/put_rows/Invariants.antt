-- `put_rows` meets its contract. The loop's invariant: what puts the rows that are left, puts all of them. Assumes nothing.
use mathlib.Core.Path.{◌≡◌}
use lib.ListN.{length}
use Rattle.timetable_turns.proofs.Rows.{Putting}
use Rattle.timetable_turns.proofs.turns.put_rows.Given as goal

abbrev pub invariant-loop-node : goal.invariant-loop-node
invariant-loop-node l = (length l.out ≡ length l.initial.out) × Putting l.position l.number l.times l.activity.nodes l.activity.count l.initial.out l.at l.out l.next l.node
