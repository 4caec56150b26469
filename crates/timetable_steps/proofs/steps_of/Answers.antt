use mathlib.Core.Path.{refl, ap, ◌∙◌}
use Prim.Native.Nat.{◌/◌}
use native.Mathlib.Omega.{arith}
use Rattle.timetable_steps.specs.Inner.Steps.{step_of}
use Rattle.timetable_steps.proofs.Laws.Steps.{named, filled_more, looks}
use Rattle.timetable_steps.proofs.steps_of.Goals as goal

pub loop-k-init : goal.loop-k-init
loop-k-init c = record { long = refl; filled = λ j h. absurd (omega arith) }

pub overflow_cast-k-in-loop-k : goal.overflow_cast-k-in-loop-k
overflow_cast-k-in-loop-k c = let u = c.requires.states.1 in let l = c.loop-k in omega arith

pub step_of-step-requires : goal.step_of-step-requires
step_of-step-requires c = named c.args.plan c.requires _

pub bounds-steps-k : goal.bounds-steps-k
bounds-steps-k c = let u = c.requires.states.1 in let l = c.loop-k in omega arith

pub loop-k-preserved : goal.loop-k-preserved
loop-k-preserved c =
    let u = c.requires.states.1 in
    let l = c.loop-k in
    let z = c.step_of-step.ensures ∙ ap (step_of _ _ (l.k / 10)) c.heard_as-heard.ensures in
    filled_more _ _ _ _ _ (omega arith) z l.invariant

pub returns : goal.returns
returns c = let l = c.loop-k in looks c.args.plan c.requires _ l.k (omega arith) l.invariant
