use Rattle.held.proofs.progresses.InstanceFromHeldInstance.from.Goals as goal

pub returns : goal.returns
returns c = simp c.told_by-told.ensures
