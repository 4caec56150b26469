use Rattle.exports.specs.Codes.{read_verdict}
use Rattle.exports.proofs.jidlekuvo_read.Goals as goal

pub returns-in-Err : goal.returns-in-Err
unfolding read_verdict
returns-in-Err c = rw (← c.read.ensures, c.in-Err.is) c.code.ensures

pub returns-in-Ok : goal.returns-in-Ok
unfolding read_verdict
returns-in-Ok c = rw (← c.read.ensures, c.in-Ok.is) c.code-in-Ok.ensures
