use Rattle.std.proofs.Common.{rules}
use Rattle.run_window.specs.Window.{is_due}
use Rattle.run_window.proofs.is_due.Goals as goal

pub returns-then-eq : goal.returns-then-eq
unfolding is_due
returns-then-eq c = search rules

pub returns-else-eq : goal.returns-else-eq
unfolding is_due
returns-else-eq c = search rules
