-- A call that is read is written.
use mathlib.Core.Path.{ap, ◌∙◌}
use Rattle.exports.specs.Messages.{sent_code, call_code, call_buffer}
use Rattle.exports.proofs.messages.call_back.Goals as goal

pub returns-in-Ok : goal.returns-in-Ok
unfolding call_code call_buffer
returns-in-Ok c =
    let w = c.write_call in
    let m = c.of_call in
    let e = c.in-Ok.is in
    let r = c.read_call in
    (rw (← r.ensures, e, ← m.ensures) (c.sent_code.ensures ∙ ap sent_code w.ensures.0), rw (← r.ensures, e, ← m.ensures) w.ensures.1)

pub returns-in-Err : goal.returns-in-Err
unfolding call_code call_buffer
returns-in-Err c = let e = c.in-Err.is in let r = c.read_call in (rw (← r.ensures, e) c.refused_code.ensures, rw (← r.ensures, e))
