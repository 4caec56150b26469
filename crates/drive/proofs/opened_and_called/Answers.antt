-- The opening's record stands first, and the parts begin where the opening ends.
use native.Mathlib.Omega.{arith}
use Rattle.drive_input.proofs.Laws.Whole.{whole_fits, whole_parts}
use Rattle.drive.proofs.Turns.{opens}
use Rattle.drive_records.proofs.Laws.Records.{record_length}
use Rattle.wire.proofs.Laws.Puts.{puts_length}
use Rattle.drive.proofs.opened_and_called.Goals as goal

pub open-opened-requires : goal.open-opened-requires
open-opened-requires c = let a = c.args in whole_fits a.input.now a.head c.requires.0

pub parts_from-requires : goal.parts_from-requires
parts_from-requires c = let a = c.args in (whole_parts a.input.now a.head c.requires.0, omega (arith, c.requires.2, record_length c.opening_record-record.result, c.put_at-end.ensures.past, puts_length c.put_at-end.ensures))

pub returns : goal.returns
returns c = let a = c.args in opens a.input.now a.head c.requires.0 a.parts c.requires.1 _ c.open-opened.ensures _ c.opening_record-record.ensures c.put_at-end.ensures c.parts_from.ensures
