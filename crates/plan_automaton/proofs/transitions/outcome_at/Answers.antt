-- The event is below 16.
use native.Mathlib.Omega.{arith}
use mathlib.Core.Path.{sym, ◌∙◌}
use Rattle.plan_fields.proofs.Laws.Read.{byte_most}
use Rattle.plan_automaton.proofs.transitions.outcome_at.Goals as goal

pub bounds-events-from : goal.bounds-events-from
bounds-events-from c = omega (arith, byte_most 0 _ _ _ _ _ _ (sym c.name_at.ensures ∙ c.in_ok-event.was), c.from.ensures)
