-- `counted` meets its contract. Assumes nothing.
use Rattle.timetable_turns.proofs.turns.counted.Goals as goal

pub returns-then-heard : goal.returns-then-heard
returns-then-heard c = rw c.if-heard.true
