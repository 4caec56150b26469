-- All zeros.
use Rattle.plan_read.proofs.zero_plan.Goals as goal

pub returns : goal.returns
returns c = rw c.zero_automaton.ensures
