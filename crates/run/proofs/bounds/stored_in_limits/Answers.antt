-- `stored_in_limits` is what it is defined to be.
use Rattle.std.proofs.Common.{rules}
use Rattle.run.specs.Inner.Checks.{stored_in_limits}
use Rattle.run.proofs.bounds.stored_in_limits.Goals as goal

pub returns-then-window_in_limits : goal.returns-then-window_in_limits
unfolding stored_in_limits
returns-then-window_in_limits c = search rules

pub returns-else-window_in_limits : goal.returns-else-window_in_limits
unfolding stored_in_limits
returns-else-window_in_limits c = search rules
