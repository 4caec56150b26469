use Rattle.held.proofs.HeldPlanFromPlan.from.Goals as goal

pub returns : goal.returns
returns c = simp (c.hold_moves-moves.ensures, c.hold_nodes-nodes.ensures)
