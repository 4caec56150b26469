-- `mark_back` keeps what `Backing` says of the marked states, one transition after the other.
use Rattle.automaton.specs.Inner.Passes.{Backing}
use Rattle.automaton_counts.proofs.final_states.mark_back.Given as goal

abbrev pub invariant-loop-t : goal.invariant-loop-t
invariant-loop-t l = Backing l.a l.initial.done l.t-index l.done l.changed
