-- The record of each reply.
use mathlib.Core.Path.{◌∙◌, ap}
use Prim.Native.Nat.{ℕ}
use Rattle.drive_records.specs.Records.{bare, reply_record}
use Rattle.drive_records.proofs.reply_record.Goals as goal

pub returns-in-Start : goal.returns-in-Start
unfolding reply_record
returns-in-Start c = rw c.in-Start.is

pub returns-in-Wait : goal.returns-in-Wait
unfolding reply_record
returns-in-Wait c = rw c.in-Wait.is c.bare.ensures

pub returns-in-Done : goal.returns-in-Done
unfolding reply_record
returns-in-Done c = rw c.in-Done.is c.bare-in-Done.ensures

pub returns-in-Taken : goal.returns-in-Taken
unfolding reply_record
returns-in-Taken c = rw c.in-Taken.is c.bare-in-Taken.ensures

pub returns-in-Refused : goal.returns-in-Refused
unfolding reply_record
returns-in-Refused c = rw c.in-Refused.is (c.bare-in-Refused.ensures ∙ ap (λ (n : ℕ). bare 5 n 0) c.refusal_number.ensures)

pub returns-in-Stopped : goal.returns-in-Stopped
unfolding reply_record
returns-in-Stopped c = rw c.in-Stopped.is c.stop_record.ensures
