-- `floor` meets its contract, by what the transition processes. Assumes nothing.
use Rattle.times.proofs.Laws.Taken.{floor_nothing, floor_oldest, floor_none}
use Rattle.times.specs.Queues.{floor_of}
use Rattle.times.proofs.queues.floor.Goals as goal

pub returns-in-Nothing : goal.returns-in-Nothing
unfolding floor_of
returns-in-Nothing c = floor_nothing _ _ c.in-Nothing.is

pub returns-then-g-i-gt0 : goal.returns-then-g-i-gt0
unfolding floor_of
returns-then-g-i-gt0 c = floor_oldest _ _ _ _ _ c.in-Outcome.is c.from-i.ensures c.if-g-i-gt0.true

pub returns-else-g-i-gt0 : goal.returns-else-g-i-gt0
unfolding floor_of
returns-else-g-i-gt0 c = floor_none _ _ _ _ _ c.in-Outcome.is c.from-i.ensures c.if-g-i-gt0.false
