-- No answer of the section of events counts more than 16 of them.
use mathlib.Core.Path.{sym, ◌∙◌}
use Rattle.plan_sections.proofs.Laws.Counts.{events_most}
use Rattle.plan_read.proofs.plan_at.Goals as goal

pub with_activities-requires : goal.with_activities-requires
with_activities-requires c = events_most _ _ _ _ _ (sym c.events_at.ensures ∙ c.in_ok-e.was)
