-- `completion` is a call.
use Rattle.run.specs.Calls.{call_of}
use Rattle.run.proofs.Run.completion.Goals as goal

pub returns : goal.returns
unfolding call_of
returns c = c.call.ensures
