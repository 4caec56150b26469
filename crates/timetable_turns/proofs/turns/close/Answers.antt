-- `close` meets its contract. Assumes nothing.
use native.Mathlib.Omega.{arith}
use Rattle.wire.proofs.Laws.Puts.{puts_none}
use Rattle.timetable_turns.proofs.Taking.{turns_shut, closes_by}
use Rattle.timetable_turns.proofs.turns.close.Goals as goal

pub put_ended-next-requires : goal.put_ended-next-requires
put_ended-next-requires c = let s = c.requires in (omega (arith, s.0), s.1)

pub returns-in-Ends : goal.returns-in-Ends
returns-in-Ends c =
    let s = c.args in
    closes_by _ s.at _ s.resources s.progress s.read _ s.step _ c.in-Ends.is
    (turns_shut _ s.at _ s.progress _ _ _ c.closed.ensures c.put_ended-next.ensures)

pub put_waiting-next-requires : goal.put_waiting-next-requires
put_waiting-next-requires c = let s = c.requires in (omega (arith, s.0), s.1)

pub returns-in-Waits : goal.returns-in-Waits
returns-in-Waits c =
    let s = c.args in
    closes_by _ s.at _ s.resources s.progress s.read _ s.step _ c.in-Waits.is
    (turns_shut _ s.at _ s.progress _ _ _ c.closed-in-Waits.ensures c.put_waiting-next.ensures)

pub put_refused-next-requires : goal.put_refused-next-requires
put_refused-next-requires c = omega (arith, c.requires.0)

pub returns-in-Lacks : goal.returns-in-Lacks
returns-in-Lacks c =
    let s = c.args in
    closes_by _ s.at _ s.resources s.progress s.read _ s.step _ c.in-Lacks.is
    (turns_shut _ s.at _ s.progress _ _ _ c.closed-in-Lacks.ensures (rw c.from.ensures at c.put_refused-next.ensures))

pub returns-in-Takes : goal.returns-in-Takes
returns-in-Takes c =
    let s = c.args in
    closes_by _ s.at _ s.resources s.progress s.read _ s.step _ c.in-Takes.is
    (turns_shut _ s.at _ s.progress _ _ _ c.closed-in-Takes.ensures (puts_none _ _))
