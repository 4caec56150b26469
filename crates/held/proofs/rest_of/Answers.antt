use Rattle.held.proofs.rest_of.Goals as goal

pub returns : goal.returns
returns c = rw (c.rest_with.ensures, c.hold_window-window.ensures)
