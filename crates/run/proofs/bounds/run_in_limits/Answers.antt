-- `run_in_limits` is what it is defined to be.
use Rattle.std.proofs.Common.{rules}
use Rattle.run.specs.Limits.{run_in_limits}
use Rattle.run.specs.Inner.Checks.{stored_in_limits}
use Rattle.run.proofs.bounds.run_in_limits.Goals as goal

pub returns-then-slack_in_limits : goal.returns-then-slack_in_limits
unfolding run_in_limits stored_in_limits
returns-then-slack_in_limits c = search rules

pub returns-else-slack_in_limits : goal.returns-else-slack_in_limits
unfolding run_in_limits stored_in_limits
returns-else-slack_in_limits c = search rules
