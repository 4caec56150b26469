-- The record of each answer to an opening.
use Rattle.drive_records.specs.Records.{opening_record}
use Rattle.drive_records.proofs.opening_record.Goals as goal

pub returns-in-Opened : goal.returns-in-Opened
unfolding opening_record
returns-in-Opened c = rw c.in-Opened.is c.bare.ensures

pub returns-in-Refused : goal.returns-in-Refused
unfolding opening_record
returns-in-Refused c = rw (c.in-Refused.is, ← c.opening_number.ensures, ← c.opening_place.ensures) c.bare-in-Refused.ensures
