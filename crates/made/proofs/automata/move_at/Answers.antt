-- A transition is made of its fields.
use Rattle.made.specs.Values.{move_at}
use Rattle.made.proofs.automata.move_at.Goals as goal

pub returns : goal.returns
unfolding move_at
returns c = rw (← c.byte-7.ensures, ← c.byte-6.ensures, ← c.byte-5.ensures, ← c.byte-4.ensures, ← c.byte-3.ensures, ← c.byte-2.ensures, ← c.byte.ensures, ← c.output_of-output.ensures, ← c.input_of-input.ensures)
