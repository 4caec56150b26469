-- The record of each stop.
use mathlib.Core.Logic.{inl, inr}
use Rattle.drive_records.specs.Records.{stop_record}
use Rattle.drive_records.proofs.stop_record.Goals as goal

pub returns-in-Late : goal.returns-in-Late
unfolding stop_record
returns-in-Late c = elim c.in-Late.is [ inl e ↦ rw (c.stop_number-number.ensures, e) | inr e ↦ rw (c.stop_number-number.ensures, e) ]

pub returns-in-Late-2 : goal.returns-in-Late-2
unfolding stop_record
returns-in-Late-2 c = elim c.in-Late.is [ inl e ↦ rw (c.stop_number-number.ensures, e) | inr e ↦ rw (c.stop_number-number.ensures, e) ]

pub returns-in-Full : goal.returns-in-Full
unfolding stop_record
returns-in-Full c =
    elim c.in-Full.is [
      | inl e ↦ rw (← c.stop_number-number.ensures, e) c.bare.ensures
      | inr e ↦ rw (← c.stop_number-number.ensures, e) c.bare.ensures
    ]
