-- `unopened` is what it is defined to be.
use Rattle.run.proofs.openings.unopened.Goals as goal

pub returns : goal.returns
returns c = simp c.zero_run-run.ensures
