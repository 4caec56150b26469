use mathlib.Core.Path.{refl}
use native.Mathlib.Omega.{arith}
use Rattle.timetable_steps.proofs.Laws.Steps.{copies-more, emits}
use Rattle.timetable_steps.proofs.activities_of.Goals as goal

pub emitted-empty-requires : goal.emitted-empty-requires
emitted-empty-requires c = (c.requires, tt)

pub loop-a-init : goal.loop-a-init
loop-a-init c = record { long = refl; empty = c.emitted-empty.ensures; below = λ j h. absurd (omega arith) }

pub emitted-activity-requires : goal.emitted-activity-requires
emitted-activity-requires c = (c.requires, c.loop-a-test.true)

pub bounds-all-from : goal.bounds-all-from
bounds-all-from c = let u = c.requires.activities in let l = c.loop-a in omega (arith, c.from.ensures, c.loop-a-test.true)

pub loop-a-preserved : goal.loop-a-preserved
loop-a-preserved c =
    let u = c.requires.activities in
    let l = c.loop-a in
    copies-more _ _ l.a _ _ (omega (arith, c.loop-a-test.true)) c.from.ensures c.emitted-activity.ensures l.invariant

pub returns : goal.returns
returns c = let l = c.loop-a in emits c.args.plan c.requires _ l.a (omega (arith, c.loop-a-test.false)) l.invariant
