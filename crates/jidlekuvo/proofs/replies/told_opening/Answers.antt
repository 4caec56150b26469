use mathlib.Core.Path.{◌∙◌, ap}
use Rattle.jidlekuvo.specs.Replies.{host_reply, opening_told}
use Rattle.jidlekuvo.proofs.replies.told_opening.Goals as goal

pub returns : goal.returns
unfolding opening_told
returns c = c.host_reply.ensures ∙ ap host_reply c.opening_record.ensures
