-- The first line fits the buffer; an accepted plan's table is open, and the turns follow it.
use Rattle.std.specs.Prelude.{refl, false, None}
use Rattle.std.proofs.Common.{sym, ◌∙◌, arith}
use Rattle.judge.specs.Judge.{judge_of}
use Rattle.timetable_turns.specs.Inner.Turn.{first_text}
use Rattle.timetable_turns.proofs.Laws.Short.{first_short}
use Rattle.timetable_output.proofs.Printing.{gathers_first, first_went, delivers_refused, delivers_all, printed_of}
use Rattle.timetable_output.proofs.print_table.Goals as goal

pub hand_on-requires : goal.hand_on-requires
hand_on-requires g c =
    let v = (judge_of c.args.bytes.now).verdict in
    let u = first_short v in
    let w = (gathers_first _ (first_text v) _ _ _ false (omega arith) c.begin-begun.ensures.text c.past-gathered.ensures).whole in
    (omega (arith, c.begin-begun.auto.out), omega arith)

pub returns-then-begun-clause-delivers : goal.returns-then-begun-clause-delivers
returns-then-begun-clause-delivers g c =
    let v = (judge_of c.args.bytes.now).verdict in
    let u = first_short v in
    let h = c.hand_on.ensures in
    let w = first_went _ (first_text v) _ _ _ _ _ _ (omega arith) c.begin-begun.ensures.text c.past-gathered.ensures h.hands.0 h.hands.1 h.went in
    delivers_refused _ _ _ _ _ (sym c.begin-begun.ensures.closed ∙ c.if-begun.true) w.0 w.1

pub returns-then-begun-clause-printed : goal.returns-then-begun-clause-printed
returns-then-begun-clause-printed g c =
    let v = (judge_of c.args.bytes.now).verdict in
    let u = first_short v in
    let h = c.hand_on.ensures in
    let w = first_went _ (first_text v) _ _ _ _ _ _ (omega arith) c.begin-begun.ensures.text c.past-gathered.ensures h.hands.0 h.hands.1 h.went in
    printed_of _ _ _ _ _ _ (delivers_refused _ None _ _ _ (sym c.begin-begun.ensures.closed ∙ c.if-begun.true) w.0 w.1)

pub all_turns-last-requires-clause-in_limits : goal.all_turns-last-requires-clause-in_limits
all_turns-last-requires-clause-in_limits g c =
    let v = (judge_of c.args.bytes.now).verdict in
    let u = first_short v in
    let w = (gathers_first _ (first_text v) _ _ _ false (omega arith) c.begin-begun.ensures.text c.past-gathered.ensures).whole in
    let within = c.begin-begun.ensures.stays c.if-begun.false in (
      within.plan,
      record {
        fits = omega arith;
        room = λ m. omega arith;
        within = λ m. within;
        went = λ m. refl;
        turns = omega arith;
        few = omega arith;
      },
      c.untaken-unread.ensures.held,
    )

pub returns-clause-delivers : goal.returns-clause-delivers
returns-clause-delivers g c =
    let v = (judge_of c.args.bytes.now).verdict in
    let u = first_short v in
    let k = c.begin-begun.ensures in
    let first = gathers_first _ (first_text v) _ _ _ false (omega arith) k.text c.past-gathered.ensures in
    delivers_all _ _ c.begin-begun.result.plan _ _ _ _ _ _ (sym k.closed ∙ c.if-begun.false) k.plan k.progress refl refl refl first c.all_turns-last.ensures.ends

pub returns-clause-printed : goal.returns-clause-printed
returns-clause-printed g c =
    let v = (judge_of c.args.bytes.now).verdict in
    let u = first_short v in
    let k = c.begin-begun.ensures in
    let first = gathers_first _ (first_text v) _ _ _ false (omega arith) k.text c.past-gathered.ensures in
    printed_of _ _ _ _ _ _ (delivers_all _ _ c.begin-begun.result.plan _ _ _ _ _ _ (sym k.closed ∙ c.if-begun.false) k.plan k.progress refl refl refl first c.all_turns-last.ensures.ends)
