-- The count is within its limit.
use mathlib.Core.Path.{sym, ◌∙◌}
use Rattle.plan_fields.proofs.Laws.Read.{count_most}
use Rattle.plan_sections.proofs.activities_at.Goals as goal

pub activities_loop-requires : goal.activities_loop-requires
activities_loop-requires c = count_most 32 _ _ _ _ _ (sym c.optional_count.ensures ∙ c.in_ok-count.was)
