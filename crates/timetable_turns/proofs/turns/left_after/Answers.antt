-- `left_after` meets its contract. Assumes nothing.
use Rattle.timetable_turns.proofs.turns.left_after.Goals as goal

pub returns : goal.returns
returns c = rw c.if-last.false
