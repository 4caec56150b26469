use Rattle.std.proofs.Common.{rules}
use Rattle.run_window.specs.Window.{is_late}
use Rattle.run_window.proofs.is_late.Goals as goal

pub returns-then-eq : goal.returns-then-eq
unfolding is_late
returns-then-eq c = search rules

pub returns-else-eq : goal.returns-else-eq
unfolding is_late
returns-else-eq c = search rules
