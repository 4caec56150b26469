-- A count that is present iff its bit stands.
use Rattle.plan.specs.Fields.{byte_at, optional_count}
use Rattle.wire.specs.Number.{optional}
use Rattle.plan_fields.proofs.optional_count.Goals as goal

pub returns-then-stands : goal.returns-then-stands
unfolding optional_count optional byte_at
returns-then-stands c = rw c.if-stands.true c.count_at.ensures

pub returns-else-stands : goal.returns-else-stands
unfolding optional_count optional
returns-else-stands c = rw c.if-stands.false
