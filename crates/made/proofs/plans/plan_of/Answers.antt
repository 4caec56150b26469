-- The plan is made of its fields.
use Rattle.made.specs.Parts.{plan_of}
use Rattle.made.proofs.plans.plan_of.Goals as goal

pub returns : goal.returns
unfolding plan_of
returns c = rw (← c.automaton_of.ensures, ← c.nodes_of.ensures, ← c.byte-4.ensures, ← c.byte-3.ensures, ← c.byte-2.ensures, ← c.byte.ensures, ← c.fill-3.ensures, ← c.fill-2.ensures, ← c.fill.ensures)
