-- `progress_in_limits` is what it is defined to be. Assumes nothing.
use Rattle.run_limits.specs.Progress.{progress_in_limits}
use Rattle.run_limits.proofs.progress_in_limits.Goals as goal

pub returns : goal.returns
unfolding progress_in_limits
returns c = c.progress_within.ensures
