-- The bytes, or 61 or 36.
use mathlib.Core.Path.{◌≡◌}
use Rattle.link_messages.specs.declared.NotSent.{NotSent}
use Rattle.exports.specs.Messages.{sent_code}
use Rattle.exports.proofs.messages.sent_code.Goals as goal

pub returns-in-Ok : goal.returns-in-Ok
unfolding sent_code
returns-in-Ok c = rw c.in-Ok.is

pub returns-in-Err-Unlisted : goal.returns-in-Err-Unlisted
unfolding sent_code
returns-in-Err-Unlisted c = let e : c.in-Err-Unlisted.field-0 ≡ NotSent.Unlisted = rw c.in-Err-Unlisted.is at c.in-Err-Unlisted.field-0-is in rw (c.in-Err-Unlisted.is, e)

pub returns-in-Err-TooShort : goal.returns-in-Err-TooShort
unfolding sent_code
returns-in-Err-TooShort c = let e : c.in-Err-TooShort.field-0 ≡ NotSent.TooShort = rw c.in-Err-TooShort.is at c.in-Err-TooShort.field-0-is in rw (c.in-Err-TooShort.is, e)
