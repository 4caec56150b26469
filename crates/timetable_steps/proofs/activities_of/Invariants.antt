-- `activities_of` meets its contract. The loop's invariant: the first a activities are copied. Assumes nothing.
use Rattle.timetable_steps.proofs.Laws.Steps.{Copies}
use Rattle.timetable_steps.proofs.activities_of.Given as goal

abbrev pub invariant-loop-a : goal.invariant-loop-a
invariant-loop-a l = Copies l.plan l.all l.a
