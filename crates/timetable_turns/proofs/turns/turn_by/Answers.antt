-- `turn_by` meets its contract, from the parts of the turn. Assumes nothing.
use mathlib.Core.Path.{sym, ap, ◌∙◌, subst}
use Rattle.plan.specs.Limits.{OutputNames}
use Rattle.run_path.specs.Inner.Path.{emitted_of}
use Rattle.timetable_steps.proofs.Laws.Steps.{named}
use Rattle.timetable_turns.proofs.Laws.Stepping.{turn_parts, step_output, step_fitting}
use Rattle.timetable_turns.proofs.Taking.{turns_as}
use Rattle.timetable_turns.proofs.turns.turn_by.Goals as goal

pub step_of-step-requires : goal.step_of-step-requires
step_of-step-requires c = named c.args.plan c.requires.within.plan c.args.progress.state

pub emitted-activity-requires : goal.emitted-activity-requires
emitted-activity-requires c =
    (c.requires.within.plan, subst (OutputNames c.args.plan) (sym c.output_of-output.ensures) (step_output c.args.plan c.requires.within.plan c.args.progress.state c.args.heard _ c.step_of-step.ensures))

pub put_step-requires : goal.put_step-requires
put_step-requires c =
    let e = c.emitted-activity.ensures ∙ ap (emitted_of c.args.plan) c.output_of-output.ensures in
    record {
      room = c.requires.room;
      few = c.requires.within.plan.resources;
      fits = step_fitting c.args.plan c.args.progress c.requires.within c.args.heard _ _ c.step_of-step.ensures e;
    }

pub returns : goal.returns
returns c =
    let s = c.args in
    let e = c.emitted-activity.ensures ∙ ap (emitted_of s.plan) c.output_of-output.ensures in
    turns_as _ s.at _ _ _ _ (turn_parts s.plan s.progress s.read s.heard _ _ c.step_of-step.ensures e) c.put_step.ensures
