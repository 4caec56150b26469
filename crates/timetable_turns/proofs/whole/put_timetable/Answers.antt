-- `put_timetable` meets its contract: by the input's length. Assumes nothing.
use mathlib.Core.Path.{sym}
use native.Mathlib.Omega.{arith}
use Rattle.timetable_turns.proofs.Laws.Whole.{whole_none, whole_cut, whole_plan}
use Rattle.timetable_turns.proofs.Placing.{puts_as}
use Rattle.timetable_turns.proofs.whole.put_timetable.Goals as goal

pub returns-then-input-lt2 : goal.returns-then-input-lt2
returns-then-input-lt2 c = puts_as _ 0 _ _ _ _ (sym (whole_none c.args.input.now c.if-input-lt2.true)) c.put_refused.ensures

pub returns-then-present-n : goal.returns-then-present-n
returns-then-present-n c =
    let a = c.args in
    let n = c.plan_length-n in
    puts_as _ 0 _ _ _ _ (sym (whole_cut a.input.now n.result (omega (arith, c.if-input-lt2.false)) n.ensures.0 c.if-present-n.true)) c.put_refused-then-present-n.ensures

pub returns : goal.returns
returns c =
    let a = c.args in
    let n = c.plan_length-n in
    puts_as _ 0 _ _ _ _ (sym (whole_plan a.input.now n.result (omega (arith, c.if-input-lt2.false)) n.ensures.0 (omega (arith, c.if-present-n.false)))) c.put_table.ensures
