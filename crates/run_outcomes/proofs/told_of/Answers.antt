use Rattle.run_outcomes.proofs.told_of.Goals as goal

pub returns : goal.returns
returns c = simp (c.told_from.ensures, c.from-i.ensures)
