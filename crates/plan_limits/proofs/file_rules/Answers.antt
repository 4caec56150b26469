-- `file_rules` is what it is defined to be. Assumes nothing.
use mathlib.Core.Path.{sym, ◌∙◌}
use Rattle.basis.proofs.Laws.Tells.{told_true}
use Rattle.plan_limits.proofs.Laws.Plans.{tells_in_limits}
use Rattle.plan_limits.specs.Limits.{file_rules}
use Rattle.plan_limits.proofs.Laws.Files.{rules_are}
use Rattle.plan_limits.proofs.file_rules.Goals as goal

pub returns-then-not-in_limits : goal.returns-then-not-in_limits
unfolding file_rules
returns-then-not-in_limits c = rw (← rules_are c.args.plan) (rw (sym c.in_limits.ensures ∙ c.if-not-in_limits.true))

pub nodes_written-requires : goal.nodes_written-requires
nodes_written-requires c = (told_true (tells_in_limits c.args.plan) (sym c.in_limits.ensures ∙ c.if-not-in_limits.false)).activities

pub returns : goal.returns
unfolding file_rules
returns c = rw (← rules_are c.args.plan) (rw (sym c.in_limits.ensures ∙ c.if-not-in_limits.false) c.nodes_written.ensures)
