-- A duration that is present iff bit 4 stands.
use borrow.Author.Tests.{eq-eqb, ne_eqb}
use Rattle.plan.specs.Nodes.{duration_at}
use Rattle.wire.specs.Number.{optional}
use Rattle.plan_fields.proofs.duration_at.Goals as goal

pub returns-then-m-eq1 : goal.returns-then-m-eq1
unfolding duration_at optional
returns-then-m-eq1 c = rw (eq-eqb _ _ c.if-m-eq1.true) c.duration_in.ensures

pub returns-else-m-eq1 : goal.returns-else-m-eq1
unfolding duration_at optional
returns-else-m-eq1 c = rw (ne_eqb _ _ c.if-m-eq1.false)
