use mathlib.Core.Path.{◌∙◌, ap}
use Rattle.jidlekuvo.specs.Replies.{host_reply, told_of}
use Rattle.jidlekuvo.proofs.replies.told.Goals as goal

pub returns : goal.returns
unfolding told_of
returns c = c.host_reply.ensures ∙ ap host_reply c.reply_record.ensures
