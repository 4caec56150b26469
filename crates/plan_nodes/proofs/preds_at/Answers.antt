-- The predecessors: their count, and the loop.
use mathlib.Core.Path.{sym, ◌∙◌}
use Rattle.plan_fields.proofs.Laws.Read.{count_most}
use Rattle.plan_nodes.proofs.preds_at.Goals as goal

pub preds_loop-requires : goal.preds_loop-requires
preds_loop-requires c = count_most 8 _ _ _ _ _ (sym c.optional_count.ensures ∙ c.in_ok-count.was)
