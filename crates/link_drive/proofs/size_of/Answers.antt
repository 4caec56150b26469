-- The bytes of the message, and the one before them.
use mathlib.Core.Path.{◌≡◌, ◌∙◌, ap}
use native.Mathlib.Omega.{arith}
use Rattle.link_messages.specs.declared.Message.{Message}
use Rattle.link_messages.specs.Message.{length_of}
use Rattle.link_calls.specs.Replies.{of_reply}
use Rattle.link_calls.proofs.Laws.Lengths.{reply_length, reply_short}
use Rattle.link_drive.proofs.size_of.Goals as goal

pub overflow_add-result : goal.overflow_add-result
overflow_add-result c =
    let size_is : c.length_of.result ≡ length_of (of_reply c.args.reply).map = c.length_of.ensures ∙ ap (λ (m : Message). length_of m.map) c.of_reply-m.ensures in
    let r = c.args.reply in omega (arith, size_is, reply_length r, reply_short r)

pub returns : goal.returns
returns c =
    let size_is : c.length_of.result ≡ length_of (of_reply c.args.reply).map = c.length_of.ensures ∙ ap (λ (m : Message). length_of m.map) c.of_reply-m.ensures in
    let r = c.args.reply in omega (arith, size_is, reply_length r)
