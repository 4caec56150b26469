use Rattle.held.proofs.rest_with.Goals as goal

pub returns : goal.returns
returns c = simp (c.hold_halt-halt.ensures, c.from-progress.ensures)
