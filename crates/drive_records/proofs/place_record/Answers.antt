-- The record of a node's place.
use Rattle.drive_records.specs.Records.{place_record}
use Rattle.drive_records.proofs.place_record.Goals as goal

pub returns : goal.returns
unfolding place_record
returns c = c.bare.ensures
