use Rattle.held.proofs.moves.TransitionFromHeldMove.from.Goals as goal

pub returns : goal.returns
returns c = simp (c.input_of-input.ensures, c.output_of-output.ensures)
