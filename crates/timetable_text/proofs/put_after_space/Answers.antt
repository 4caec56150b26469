-- The space, then the number.
use Rattle.wire.proofs.Laws.Puts.{puts_join}
use Rattle.timetable_text.proofs.put_after_space.Goals as goal

pub returns : goal.returns
returns c = puts_join c.put_byte-next.ensures c.put_decimal.ensures
