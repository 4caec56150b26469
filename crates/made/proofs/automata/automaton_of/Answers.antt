-- The automaton is made of its fields.
use Rattle.made.specs.Parts.{automaton_of}
use Rattle.made.proofs.automata.automaton_of.Goals as goal

pub returns : goal.returns
unfolding automaton_of
returns c = rw (← c.moves_of.ensures, ← c.two.ensures.0, ← c.eight.ensures, ← c.byte-2.ensures, ← c.byte.ensures)
