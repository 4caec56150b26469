-- `zero_run` is what it is defined to be.
use Rattle.run.proofs.openings.zero_run.Goals as goal

pub returns : goal.returns
returns c = simp (c.uncalled.ensures, c.vacant-free.ensures, c.at_first-progress.ensures, c.zero_plan-plan.ensures)
