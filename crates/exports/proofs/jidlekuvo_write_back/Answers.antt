use mathlib.Core.Path.{ap, ◌∙◌}
use Rattle.exports.specs.Codes.{written_code, back_code, back_buffer}
use Rattle.exports.proofs.jidlekuvo_write_back.Goals as goal

pub returns-in-Err : goal.returns-in-Err
unfolding back_code back_buffer
returns-in-Err c = (
  rw (← c.read.ensures, c.in-Err.is) c.code.ensures,
  rw (← c.read.ensures, c.in-Err.is),
)

pub returns-in-Ok : goal.returns-in-Ok
unfolding back_code back_buffer
returns-in-Ok c =
    let w = c.write in
    let r = c.read in
    let e = c.in-Ok.is in
    (rw (← r.ensures, e) (c.written_code.ensures ∙ ap written_code w.ensures.0), rw (← r.ensures, e) w.ensures.1)
