-- A name is a field below the number of things.
use mathlib.Core.Path.{◌∙◌}
use Rattle.plan_fields.proofs.name_at.Goals as goal

pub returns : goal.returns
returns c = c.byte_in.ensures ∙ rw c.from.ensures
