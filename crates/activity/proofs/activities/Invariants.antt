-- `activities` meets its contract. The loop's invariant: the whole verdict is the verdict on the activities from a on. Assumes nothing.
use Prim.Native.Nat.{◌-◌}
use mathlib.Core.Path.{◌≡◌}
use Rattle.activity.specs.Number.{verdict_from, activities_verdict}
use Rattle.activity.proofs.activities.Given as goal

abbrev pub invariant-loop-a : goal.invariant-loop-a
invariant-loop-a l = activities_verdict l.plan ≡ verdict_from l.plan l.a (l.plan.activities - l.a)
