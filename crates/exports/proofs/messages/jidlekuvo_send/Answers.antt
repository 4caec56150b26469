-- 17 bytes, and then by the direction.
use mathlib.Core.Path.{ap, ◌∙◌}
use lib.ListN.{length}
use borrow.Author.Tests.{eq-eqb, ne_eqb}
use Rattle.exports.specs.Messages.{sent_code, send_code, send_buffer}
use Rattle.exports.proofs.messages.jidlekuvo_send.Goals as goal

pub returns-then-fields-ne17 : goal.returns-then-fields-ne17
unfolding send_code send_buffer
returns-then-fields-ne17 c = let e = ne_eqb (length c.args.fields.now) 17 c.if-fields-ne17.true in (rw e, rw e)

pub returns-then-direction-eq0 : goal.returns-then-direction-eq0
unfolding send_code send_buffer
returns-then-direction-eq0 c =
    let a = c.args in
    let e = eq-eqb (length a.fields.now) 17 c.if-fields-ne17.false in
    let d = eq-eqb a.direction 0 c.if-direction-eq0.true in
    let m = c.message_of-m.ensures in
    let w = c.write_call.ensures in
    (rw (e, d, ← m) (c.sent_code.ensures ∙ ap sent_code w.0), rw (e, d, ← m) w.1)

pub returns : goal.returns
unfolding send_code send_buffer
returns c =
    let a = c.args in
    let e = eq-eqb (length a.fields.now) 17 c.if-fields-ne17.false in
    let d = ne_eqb a.direction 0 c.if-direction-eq0.false in
    let m = c.message_of-m.ensures in
    let w = c.write_answer.ensures in
    (rw (e, d, ← m) (c.sent_code-2.ensures ∙ ap sent_code w.0), rw (e, d, ← m) w.1)
