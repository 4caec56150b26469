-- By the direction.
use borrow.Author.Tests.{eq-eqb, ne_eqb}
use Rattle.exports.specs.Messages.{message_code, message_buffer}
use Rattle.exports.proofs.messages.jidlekuvo_message.Goals as goal

pub returns-then-direction-eq0 : goal.returns-then-direction-eq0
unfolding message_code message_buffer
returns-then-direction-eq0 c =
    let e = eq-eqb c.args.direction 0 c.if-direction-eq0.true in
    (rw e c.call_back.ensures.0, rw e c.call_back.ensures.1)

pub returns : goal.returns
unfolding message_code message_buffer
returns c =
    let e = ne_eqb c.args.direction 0 c.if-direction-eq0.false in
    (rw e c.answer_back.ensures.0, rw e c.answer_back.ensures.1)
