use Rattle.held.proofs.places.HeldEntryFromEntry.from.Goals as goal

pub returns : goal.returns
returns c = simp c.phase_number.ensures
