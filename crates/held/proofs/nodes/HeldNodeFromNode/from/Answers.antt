use Rattle.held.proofs.nodes.HeldNodeFromNode.from.Goals as goal

pub returns : goal.returns
returns c = simp (c.peripheral_in.ensures, c.number_in.ensures, c.kind_number.ensures)
