-- The stop is made of its fields.
use Rattle.made_up.proofs.halt_at.Goals as goal

pub returns : goal.returns
returns c = rw (← c.byte-3.ensures, ← c.byte-2.ensures, ← c.four.ensures.0, ← c.byte.ensures, ← c.stop_of-stop.ensures) c.halt_of.ensures
