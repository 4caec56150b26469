use Rattle.held.proofs.moves.HeldMoveFromTransition.from.Goals as goal

pub returns : goal.returns
returns c =
    simp (c.input_number.ensures, c.input_event.ensures, c.input_outcome.ensures, c.output_number.ensures, c.output_activity.ensures)
