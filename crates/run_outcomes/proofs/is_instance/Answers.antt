use borrow.Author.Tests.{eq-eqb, ne_eqb}
use Rattle.run_outcomes.specs.Told.{is_instance}
use Rattle.run_outcomes.proofs.is_instance.Goals as goal

pub returns-then-x-position : goal.returns-then-x-position
unfolding is_instance
returns-then-x-position c = rw (eq-eqb _ _ c.if-x-position.true)

pub returns-else-x-position : goal.returns-else-x-position
unfolding is_instance
returns-else-x-position c = rw (ne_eqb _ _ c.if-x-position.false)
