-- The progress is made of its fields.
use Rattle.made.specs.Parts.{progress_of}
use Rattle.made.proofs.moments.progress_of.Goals as goal

pub returns : goal.returns
unfolding progress_of
returns c = rw (← c.byte.ensures, ← c.four.ensures.0, ← c.pending_of.ensures, ← c.times_at-2.ensures, ← c.times_at.ensures, ← c.fill.ensures)
