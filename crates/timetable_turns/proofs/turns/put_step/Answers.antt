-- `put_step` meets its contract: the rows of the transition, 44, or the text that closes the table. Assumes nothing.
use mathlib.Core.Path.{refl, sym, subst}
use native.Mathlib.Omega.{arith}
use Rattle.timetable_turns.specs.Inner.Answers.{Drafts}
use Rattle.timetable_turns.proofs.Taking.{turns_closing, turns_taking, turns_stops, turns_goes}
use Rattle.timetable_turns.proofs.turns.put_step.Goals as goal

pub close-requires : goal.close-requires
close-requires c = let s = c.requires in (s.room, s.few)

pub returns-in-Ends : goal.returns-in-Ends
returns-in-Ends c =
    let s = c.args in
    turns_closing _ s.at _ s.resources s.progress s.read _ s.step _ c.in-Ends.is _ refl c.close.ensures

pub close-requires-in-Waits : goal.close-requires-in-Waits
close-requires-in-Waits c = let s = c.requires in (s.room, s.few)

pub returns-in-Waits : goal.returns-in-Waits
returns-in-Waits c =
    let s = c.args in
    turns_closing _ s.at _ s.resources s.progress s.read _ s.step _ c.in-Waits.is _ refl c.close-in-Waits.ensures

pub close-requires-in-Lacks : goal.close-requires-in-Lacks
close-requires-in-Lacks c = let s = c.requires in (s.room, s.few)

pub returns-in-Lacks : goal.returns-in-Lacks
returns-in-Lacks c =
    let s = c.args in
    turns_closing _ s.at _ s.resources s.progress s.read _ s.step _ c.in-Lacks.is _ refl c.close-in-Lacks.ensures

pub advance-advanced-requires : goal.advance-advanced-requires
advance-advanced-requires c = c.requires.fits _ _ c.in-Takes.is

pub put_refused-next-requires : goal.put_refused-next-requires
put_refused-next-requires c = omega (arith, c.requires.room)

pub returns-then-advanced : goal.returns-then-advanced
returns-then-advanced c =
    let s = c.args in
    let v = c.advance-advanced in
    turns_taking _ s.at _ s.resources _ s.progress s.read _ s.step _ _ c.in-Takes.is
    (subst (Drafts _ s.at _ _) (sym c.closed.ensures) (turns_stops _ s.at _ s.resources s.activity s.progress _ _ v.result v.ensures _ c.if-advanced.true (rw c.from.ensures at c.put_refused-next.ensures)))

pub put_rows-next-requires : goal.put_rows-next-requires
put_rows-next-requires c = let s = c.requires in (s.room, (s.fits _ _ c.in-Takes.is).activity.count)

pub returns-in-Takes : goal.returns-in-Takes
returns-in-Takes c =
    let s = c.args in
    let v = c.advance-advanced in
    turns_taking _ s.at _ s.resources _ s.progress s.read _ s.step _ _ c.in-Takes.is
    (turns_goes _ s.at _ s.resources s.activity s.progress _ _ v.result v.ensures _ _ c.if-advanced.false c.activity_number-number.ensures c.put_rows-next.ensures)
