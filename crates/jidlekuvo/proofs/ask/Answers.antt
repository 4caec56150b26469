use Rattle.run.specs.Calls.{call_of}
use Rattle.jidlekuvo.proofs.ask.Goals as goal

pub returns : goal.returns
unfolding call_of
returns c = c.step.ensures
