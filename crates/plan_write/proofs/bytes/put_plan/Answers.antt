-- The sections, the activities and the automaton, one after the other.
use native.Mathlib.Omega.{arith}
use Rattle.wire.proofs.Laws.Puts.{puts_join}
use Rattle.plan_write.proofs.Laws.Printed.{plan_print}
use Rattle.plan_write.proofs.bytes.put_plan.Goals as goal

pub put_activities-b-requires : goal.put_activities-b-requires
put_activities-b-requires c = (omega (arith, c.put_sections-a.ensures.0), c.requires)

pub put_automaton-requires : goal.put_automaton-requires
put_automaton-requires c = (omega (arith, c.put_sections-a.ensures.0, c.put_activities-b.ensures.0, c.requires.activities), c.requires.transitions)

pub returns : goal.returns
returns c = rw (plan_print c.args.plan) (puts_join c.put_sections-a.ensures.1 (puts_join c.put_activities-b.ensures.1 c.put_automaton.ensures))
