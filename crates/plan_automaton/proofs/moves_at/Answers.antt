-- The transition count is within its limit.
use mathlib.Core.Path.{sym, ◌∙◌}
use Rattle.plan_fields.proofs.Laws.Read.{move_count_most}
use borrow.Author.Rules.{rules}
use Rattle.plan_automaton.proofs.moves_at.Goals as goal

pub moves_loop-requires : goal.moves_loop-requires
moves_loop-requires c = (move_count_most _ _ _ _ (sym c.move_count_at.ensures ∙ c.in_ok-count.was), search rules)
