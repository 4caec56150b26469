-- The parts of a record are put one after the other.
use Rattle.wire.proofs.Laws.Puts.{puts_join}
use Rattle.drive_records.specs.Records.{record_bytes}
use Rattle.drive_records.proofs.put_first.Goals as goal

pub returns : goal.returns
unfolding record_bytes
returns c = rw (← c.from.ensures) (puts_join c.put_byte-a.ensures (puts_join c.put_byte-b.ensures (puts_join c.put_byte-c.ensures (puts_join c.put_byte-d.ensures (puts_join c.put_number-e.ensures c.put_number.ensures)))))
