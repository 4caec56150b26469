-- `is_node` tells whether a place holds the node with an identity.
use Rattle.std.proofs.Common.{sym, ◌∙◌, eq-eqb, ne_eqb}
use Rattle.run_window.specs.Window.{is_node}
use Rattle.run_window.proofs.Laws.Tests.{free_unheld, unfree_held}
use Rattle.run_window.proofs.is_node.Goals as goal

pub returns-then-is_free : goal.returns-then-is_free
unfolding is_node
returns-then-is_free c = simp (free_unheld c.args.e.phase (sym c.is_free.ensures ∙ c.if-is_free.true))

pub returns-then-e-position : goal.returns-then-e-position
unfolding is_node
returns-then-e-position c = rw (unfree_held c.args.e.phase (sym c.is_free.ensures ∙ c.if-is_free.false), eq-eqb _ _ c.if-e-position.true)

pub returns-else-e-position : goal.returns-else-e-position
unfolding is_node
returns-else-e-position c = rw (unfree_held c.args.e.phase (sym c.is_free.ensures ∙ c.if-is_free.false), ne_eqb _ _ c.if-e-position.false)
