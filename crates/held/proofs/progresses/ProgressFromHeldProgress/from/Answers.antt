use Rattle.held.proofs.progresses.ProgressFromHeldProgress.from.Goals as goal

pub returns : goal.returns
returns c = simp c.pending_of-pending.ensures
