-- The text of each turn joins the text so far.
use Rattle.std.specs.Prelude.{◌≡◌, false, ℕ, get_or, None}
use Rattle.std.proofs.Common.{ap, ◌∙◌, arith}
use Rattle.timetable_steps.specs.declared.Step.{Step}
use Rattle.timetable_steps.specs.Inner.Steps.{place_of}
use Rattle.timetable_streams.specs.Inner.Asking.{asks}
use Rattle.timetable_turns.specs.Inner.Turn.{waits_of}
use Rattle.timetable_turns.proofs.Laws.Stepping.{turn_parts, step_fitting}
use Rattle.timetable_output.proofs.Turning.{between, looked, put_few, put_count, drafts_as, goes, stands_asked, step_asks}
use Rattle.timetable_output.proofs.Printing.{prints_same, prints_none, prints_turn, prints_join, ends_rest}
use Rattle.timetable_output.proofs.all_turns.Goals as goal

pub loop-left-init : goal.loop-left-init
loop-left-init g c = record {
  size = c.requires.out_len;
  held = c.requires.in_limits.2;
  stands = c.requires.in_limits.1;
  prints = prints_same c.args.plan c.args.first _ _ _;
}

pub put_step-drafted-requires : goal.put_step-drafted-requires
put_step-drafted-requires g c =
    let p = c.args.plan in
    let l = c.loop-left in
    let within = l.invariant.stands.within c.loop-left-test.true in
    let room = l.invariant.stands.room c.loop-left-test.true in
    let fewer = c.ask-asked.ensures.asks.listens.fewer in
    let heard = c.ask-asked.result.heard in
    let k = looked p _ _ c.requires.in_limits.0 c.steps_of-steps.ensures c.activities_of-activities.ensures l.progress within.progress.state heard _ _ c.index_of-j.ensures.value (c.place_of-k.ensures.0 ∙ ap place_of c.output_of.ensures) in
    record {
      room = omega arith;
      few = c.requires.in_limits.0.resources;
      fits = step_fitting p l.progress within heard _ _ k.step k.activity;
    }

pub keep-kept-requires : goal.keep-kept-requires
keep-kept-requires g c =
    let p = c.args.plan in
    let l = c.loop-left in
    let more = c.loop-left-test.true in
    let within = l.invariant.stands.within more in
    let heard = c.ask-asked.result.heard in
    let listens = c.ask-asked.ensures.asks.listens in
    let asked = between c.ask-asked.result.output l.taken l.left l.progress in
    let stood = stands_asked p (between l.output l.taken l.left l.progress) l.invariant.stands _ _ listens.hands listens.fewer c.if-output.false in
    let k = looked p _ _ c.requires.in_limits.0 c.steps_of-steps.ensures c.activities_of-activities.ensures l.progress within.progress.state heard _ _ c.index_of-j.ensures.value (c.place_of-k.ensures.0 ∙ ap place_of c.output_of.ensures) in
    let drafted = drafts_as l.out _ _ _ _ _ (turn_parts p l.progress l.taken heard _ _ k.step k.activity) c.put_step-drafted.ensures in
    let u = put_few p asked heard _ _ c.put_step-drafted.result drafted l.invariant.size stood more in
    let v = put_count p asked heard _ _ c.put_step-drafted.result drafted l.invariant.size stood more in
    (omega (arith, u, c.put_step-drafted.auto.out, l.invariant.size), v, more)

pub loop-left-preserved : goal.loop-left-preserved
loop-left-preserved g c =
    let p = c.args.plan in
    let l = c.loop-left in
    let more = c.loop-left-test.true in
    let within = l.invariant.stands.within more in
    let heard = c.ask-asked.result.heard in
    let listens = c.ask-asked.ensures.asks.listens in
    let before = between l.output l.taken l.left l.progress in
    let asked = between c.ask-asked.result.output l.taken l.left l.progress in
    let stood = stands_asked p before l.invariant.stands _ _ listens.hands listens.fewer c.if-output.false in
    let k = looked p _ _ c.requires.in_limits.0 c.steps_of-steps.ensures c.activities_of-activities.ensures l.progress within.progress.state heard _ _ c.index_of-j.ensures.value (c.place_of-k.ensures.0 ∙ ap place_of c.output_of.ensures) in
    let drafted = drafts_as l.out _ _ _ _ _ (turn_parts p l.progress l.taken heard _ _ k.step k.activity) c.put_step-drafted.ensures in
    let keeps = c.keep-kept.ensures.keeps in
    let went = c.keep-kept.ensures.went in
    let turn = goes p asked heard _ _ c.put_step-drafted.result drafted l.invariant.size stood more _ _ _ keeps.hands (record { onward = went.onward; bytes = went.bytes }) keeps.room _ c.counted-taken.ensures _ keeps.left in
    let unheard = ap (λ (i : ℕ). get_or c.steps_of-steps.result i Step.Ends) c.index_of-i.ensures.value ∙ c.steps_of-steps.ensures.looked l.progress.state None within.progress.state in
    let unasked = λ (w : waits_of p l.progress ≡ false). c.ask-asked.ensures.asks.unasked (ap asks unheard ∙ step_asks p l.progress ∙ w) in
    record {
      size = c.put_step-drafted.auto.out ∙ l.invariant.size;
      held = listens.held;
      stands = turn.stands;
      prints =
          prints_join p c.args.first _ _ _ _ _ _ _ _ _ asked _ c.if-output.false more
          (prints_join p c.args.first _ _ _ _ _ _ _ _ _ before asked (l.invariant.stands.went more) more l.invariant.prints (prints_none p before _ _ _ _ _ listens.hands c.ask-asked.ensures.went))
          (prints_turn p asked heard _ _ _ _ _ _ _ more unasked c.ask-asked.ensures.taken turn);
    }

pub returns-clause-ends : goal.returns-clause-ends
returns-clause-ends g c =
    let l = c.loop-left in
    ends_rest c.args.plan c.args.first _ _ _ _ _ _ _ (between l.output l.taken l.left l.progress) _ l.invariant.prints (omega (arith, c.loop-left-test.false)) c.hand_on_rest-output.ensures.rests c.hand_on_rest-output.ensures.went
