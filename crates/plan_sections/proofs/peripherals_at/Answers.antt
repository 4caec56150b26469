-- The count is within its limit.
use mathlib.Core.Path.{sym, ◌∙◌}
use Rattle.plan_fields.proofs.Laws.Read.{count_most}
use Rattle.plan_sections.proofs.peripherals_at.Goals as goal

pub belongs_at-requires : goal.belongs_at-requires
belongs_at-requires c = count_most 64 _ _ _ _ _ (sym c.optional_count.ensures ∙ c.in_ok-count.was)
