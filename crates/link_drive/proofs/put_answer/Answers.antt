-- The length, and the reply in the part of the buffer behind it.
use mathlib.Core.Path.{◌≡◌, refl, sym, ◌∙◌, ap}
use native.Mathlib.Omega.{arith}
use Prim.Native.Nat.{◌+◌, ◌≤◌}
use lib.ListN.{length}
use Rattle.wire.proofs.Laws.Puts.{puts_length}
use Rattle.link_messages.specs.declared.Message.{Message}
use Rattle.link_messages.specs.Message.{length_of}
use Rattle.link_calls.specs.Replies.{encode_reply}
use Rattle.link_calls.proofs.Laws.Lengths.{reply_length, reply_short}
use Rattle.link_drive.proofs.Putting.{answer_puts}
use borrow.Author.Rules.{rules}
use Rattle.link_drive.proofs.put_answer.Goals as goal

pub overflow_add-end : goal.overflow_add-end
overflow_add-end c =
    let size_is : c.length_of-n.result ≡ length (encode_reply c.args.reply) = c.length_of-n.ensures ∙ ap (λ (m : Message). length_of m.map) c.of_reply-m.ensures ∙ sym (reply_length _) in
    omega (arith, size_is)

pub overflow_cast-out : goal.overflow_cast-out
overflow_cast-out c =
    let size_is : c.length_of-n.result ≡ length (encode_reply c.args.reply) = c.length_of-n.ensures ∙ ap (λ (m : Message). length_of m.map) c.of_reply-m.ensures ∙ sym (reply_length _) in
    omega (arith, size_is, reply_short c.args.reply)

pub slice_bounds-write_answer-end : goal.slice_bounds-write_answer-end
slice_bounds-write_answer-end c =
    let size_is : c.length_of-n.result ≡ length (encode_reply c.args.reply) = c.length_of-n.ensures ∙ ap (λ (m : Message). length_of m.map) c.of_reply-m.ensures ∙ sym (reply_length _) in
    let a = c.args in let h : a.at + 1 + c.length_of-n.result ≤ length a.out.now = omega (arith, size_is) in search rules

pub returns : goal.returns
returns c =
    let size_is : c.length_of-n.result ≡ length (encode_reply c.args.reply) = c.length_of-n.ensures ∙ ap (λ (m : Message). length_of m.map) c.of_reply-m.ensures ∙ sym (reply_length _) in
    let a = c.args in
    answer_puts a.reply a.out.now a.at c.length_of-n.result _ _ (size_is) refl refl (omega (arith, size_is)) _ c.of_reply-m.ensures _ c.write_answer.ensures.1

pub shape_of-out : goal.shape_of-out
shape_of-out c = puts_length (returns c)
