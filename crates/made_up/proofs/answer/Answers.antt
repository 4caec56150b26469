-- Two records, or a buffer too short.
use native.Mathlib.Omega.{arith}
use Rattle.wire.proofs.Laws.Puts.{puts_length}
use Rattle.drive_records.proofs.Laws.Records.{record_length}
use Rattle.made_up.proofs.Recorded.{too_short, both-written}
use Rattle.made_up.proofs.answer.Goals as goal

pub returns-then-out-lt32 : goal.returns-then-out-lt32
returns-then-out-lt32 c = let a = c.args in too_short a.bytes.now a.out.now c.if-out-lt32.true

pub put_at-requires : goal.put_at-requires
put_at-requires c = omega (arith, record_length c.reply_record.result, c.put_at-end.ensures.past, puts_length c.put_at-end.ensures)

pub returns : goal.returns
returns c = let a = c.args in both-written a.bytes.now a.out.now (omega arith) _ c.run_of-run.ensures _ _ c.call_at.ensures c.call_at-2.ensures _ _ c.call-first.ensures c.call-second.ensures _ _ c.reply_record.ensures c.reply_record-2.ensures c.put_at-end.ensures c.put_at.ensures
