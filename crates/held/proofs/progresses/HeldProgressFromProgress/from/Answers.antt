use Rattle.held.proofs.progresses.HeldProgressFromProgress.from.Goals as goal

pub returns : goal.returns
returns c = simp c.hold_pending-pending.ensures
