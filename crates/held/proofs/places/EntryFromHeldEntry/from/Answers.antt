use Rattle.held.proofs.places.EntryFromHeldEntry.from.Goals as goal

pub returns : goal.returns
returns c = simp c.phase_of-phase.ensures
