-- `before::through` meets its contract. The loop's invariant: the words so far are stepped through k, the others as they were. Assumes nothing.
use Rattle.activity.specs.Inner.Closure.{Through}
use Rattle.activity.proofs.before.through.Given as goal

abbrev pub invariant-loop-w : goal.invariant-loop-w
invariant-loop-w l = Through l.initial.w-items l.k l.w-index l.w-items
