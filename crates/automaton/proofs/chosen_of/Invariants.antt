-- `chosen_of` goes by the first transition that carries the event and the outcome: the transition taken is what the transitions from i on say.
use Rattle.std.specs.Prelude.{◌≡◌, drop}
use Rattle.automaton.specs.Next.{chosen_from, chosen_of}
use Rattle.automaton.proofs.chosen_of.Given as goal

abbrev pub invariant-loop-i : goal.invariant-loop-i
invariant-loop-i l = chosen_of l.fn.a l.s l.e l.o ≡ chosen_from (drop l.i l.t-items) l.s l.e l.o l.i
