-- An instance is made of its fields.
use Rattle.made.specs.Values.{instance_at}
use Rattle.made.proofs.moments.instance_at.Goals as goal

pub returns : goal.returns
unfolding instance_at
returns c = rw (← c.byte-3.ensures, ← c.four.ensures.0, ← c.byte-2.ensures, ← c.byte.ensures, ← c.time-end.ensures, ← c.told_of-told.ensures)
