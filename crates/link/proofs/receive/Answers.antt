-- A good message is its call; a bad one leaves the run as it came in.
use Rattle.link.specs.Receive.{receive_of}
use Rattle.link.proofs.receive.Goals as goal

pub returns-in-Ok : goal.returns-in-Ok
unfolding receive_of
returns-in-Ok c = rw (← c.read_call-read.ensures, c.in-Ok.is) c.call.ensures

pub returns-in-Err : goal.returns-in-Err
unfolding receive_of
returns-in-Err c = rw (← c.read_call-read.ensures, c.in-Err.is) c.refused.ensures
