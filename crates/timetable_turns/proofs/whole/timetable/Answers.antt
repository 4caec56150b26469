-- `timetable` meets its contract: the whole text, or 36. Assumes nothing.
use native.Mathlib.Omega.{arith}
use Rattle.timetable_turns.specs.Timetable.{timetable_of}
use Rattle.timetable_text.proofs.Laws.Lent.{lends_past, lends_short}
use Rattle.timetable_turns.proofs.whole.timetable.Goals as goal

pub returns-then-size-out : goal.returns-then-size-out
returns-then-size-out c =
    let a = c.args in
    let p = c.put_timetable-size.ensures.past in
    lends_past a.out.now 0 (timetable_of a.input.now) (omega (arith, c.if-size-out.true)) _ _ c.put_timetable.ensures

pub returns : goal.returns
returns c =
    let a = c.args in
    let p = c.put_timetable-size.ensures.past in
    lends_short a.out.now 0 (timetable_of a.input.now) (omega (arith, c.if-size-out.false))
