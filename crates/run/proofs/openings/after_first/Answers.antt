-- `after_first` is what it is defined to be.
use Rattle.run.proofs.openings.after_first.Goals as goal

pub returns-in-None : goal.returns-in-None
returns-in-None c = simp (c.in-None.is, c.uncalled-run.ensures)
