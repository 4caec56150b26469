-- An answer that is read is written.
use mathlib.Core.Path.{ap, ◌∙◌}
use Rattle.exports.specs.Messages.{sent_code, answer_code, answer_buffer}
use Rattle.exports.proofs.messages.answer_back.Goals as goal

pub returns-in-Ok : goal.returns-in-Ok
unfolding answer_code answer_buffer
returns-in-Ok c =
    let w = c.write_answer in
    let m = c.of_reply in
    let e = c.in-Ok.is in
    let r = c.read_answer in
    (rw (← r.ensures, e, ← m.ensures) (c.sent_code.ensures ∙ ap sent_code w.ensures.0), rw (← r.ensures, e, ← m.ensures) w.ensures.1)

pub returns-in-Err : goal.returns-in-Err
unfolding answer_code answer_buffer
returns-in-Err c = let e = c.in-Err.is in let r = c.read_answer in (rw (← r.ensures, e) c.refused_code.ensures, rw (← r.ensures, e))
