-- The run is made of its fields.
use Rattle.made_up.specs.Made.{made_of}
use Rattle.made_up.proofs.run_of.Goals as goal

pub returns : goal.returns
unfolding made_of
returns c = rw (← c.window_of.ensures, ← c.progress_of.ensures, ← c.eight-3.ensures, ← c.plan_of.ensures, ← c.halt_at-halt.ensures, ← c.eight-2.ensures, ← c.eight.ensures)
