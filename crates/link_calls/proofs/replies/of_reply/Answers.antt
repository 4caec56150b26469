-- The message of each reply.
use mathlib.Core.Path.{◌∙◌, ap}
use Rattle.link_calls.specs.Replies.{plain}
use Rattle.link_calls.proofs.replies.of_reply.Goals as goal

pub returns-in-Start : goal.returns-in-Start
returns-in-Start c = rw c.in-Start.is

pub returns-in-Wait : goal.returns-in-Wait
returns-in-Wait c = rw c.in-Wait.is c.plain.ensures

pub returns-in-Done : goal.returns-in-Done
returns-in-Done c = rw c.in-Done.is c.plain-in-Done.ensures

pub returns-in-Taken : goal.returns-in-Taken
returns-in-Taken c = rw c.in-Taken.is c.plain-in-Taken.ensures

pub returns-in-Refused : goal.returns-in-Refused
returns-in-Refused c = rw c.in-Refused.is (c.plain-in-Refused.ensures ∙ ap (plain 0x20) c.refusal_number.ensures)

pub returns-in-Stopped : goal.returns-in-Stopped
returns-in-Stopped c = rw c.in-Stopped.is c.of_stop.ensures
