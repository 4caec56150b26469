-- A count is a field of 1 to `most`.
use mathlib.Core.Path.{◌∙◌}
use Rattle.plan_fields.proofs.count_at.Goals as goal

pub returns : goal.returns
returns c = c.byte_in.ensures ∙ rw c.from.ensures
