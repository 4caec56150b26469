use Rattle.held.specs.Held.{held_of}
use Rattle.held.proofs.HeldFromRun.from.Goals as goal

pub returns : goal.returns
unfolding held_of
returns c = simp (c.from-plan.ensures, c.rest_of-rest.ensures)
