-- `steps_of` meets its contract. The loop's invariant: the first k places are filled. Assumes nothing.
use Rattle.timetable_steps.proofs.Laws.Steps.{Filled}
use Rattle.timetable_steps.proofs.steps_of.Given as goal

abbrev pub invariant-loop-k : goal.invariant-loop-k
invariant-loop-k l = Filled l.automaton l.outcomes l.steps l.k
