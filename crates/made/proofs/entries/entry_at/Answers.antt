-- A place of the window is made of its fields.
use Rattle.made.specs.Values.{entry_at}
use Rattle.made.proofs.entries.entry_at.Goals as goal

pub returns : goal.returns
unfolding entry_at
returns c = rw (← c.byte-3.ensures, ← c.byte-2.ensures, ← c.four.ensures.0, ← c.time-end.ensures, ← c.time-start.ensures, ← c.byte.ensures, ← c.phase_of-phase.ensures)
