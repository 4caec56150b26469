-- `all_but_nodes` puts the tests of the parts together.
use Rattle.run_limits.specs.Progress.{progress_in_limits}
use Rattle.held.specs.Held.{run_of}
use Rattle.held_checks.specs.Inner.Checks.{all_but_nodes}
use Rattle.held_checks.proofs.all_but_nodes.Goals as goal

pub returns : goal.returns
unfolding run_of all_but_nodes progress_in_limits
returns c =
    rw (← c.window_in_limits-holds.ensures, ← c.halt_of-halt.ensures, ← c.from-progress.ensures, ← c.progress_within-stands.ensures, ← c.numbers_in_limits-good.ensures) c.run_in_limits.ensures
