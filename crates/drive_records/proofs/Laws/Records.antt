-- Every record is as long.
use Rattle.std.specs.Prelude.{◌≡◌, refl, length}
use Rattle.drive_records.specs.declared.Record.{Record}
use Rattle.drive_records.specs.Records.{record_bytes}

pub record_length : (r : Record) → length (record_bytes r) ≡ 16
unfolding record_bytes
record_length r = refl
