use Rattle.held.proofs.nodes.NodeFromHeldNode.from.Goals as goal

pub returns : goal.returns
returns c = simp c.kind_of-kind.ensures
