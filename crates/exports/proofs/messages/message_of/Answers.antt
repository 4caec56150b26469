-- Each field at its offset.
use Rattle.exports.specs.Messages.{fields_of}
use Rattle.exports.proofs.messages.message_of.Goals as goal

pub returns : goal.returns
unfolding fields_of
returns c = rw (← c.eight.ensures, ← c.four.ensures.0)
