-- The count is within its limit.
use mathlib.Core.Path.{sym, ◌∙◌}
use Rattle.plan_fields.proofs.Laws.Read.{count_most}
use Rattle.plan_sections.proofs.events_at.Goals as goal

pub outcomes_at-requires : goal.outcomes_at-requires
outcomes_at-requires c = count_most 16 _ _ _ _ _ (sym c.optional_count.ensures ∙ c.in_ok-count.was)
