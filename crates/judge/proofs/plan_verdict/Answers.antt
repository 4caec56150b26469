-- The verdict on a plan that was read: the activities, then the automaton by the table of what they emit.
use mathlib.Core.Path.{◌∙◌}
use Rattle.automaton.proofs.Laws.Bounds.{in_range}
use Rattle.automaton_verdict.proofs.Laws.Table.{table_verdict}
use Rattle.judge.proofs.plan_verdict.Goals as goal

pub automaton-requires : goal.automaton-requires
automaton-requires c = record { in_range = in_range _ c.requires; few = c.emissions-emits.ensures.few }

pub returns : goal.returns
returns c =
    rw (← c.activities.ensures, c.in_ok-activities.was) (c.automaton.ensures ∙ table_verdict c.args.plan c.requires c.emissions-emits.result c.emissions-emits.ensures)
