-- `pass` keeps what `Going` says of the reached states and their counts, one transition after the other.
use Rattle.automaton_counts.specs.Inner.Emits.{gives}
use Rattle.automaton.specs.Inner.Passes.{Going}
use Rattle.automaton_counts.proofs.counting.pass.Given as goal

abbrev pub invariant-loop-t : goal.invariant-loop-t
invariant-loop-t l = Going l.a (gives l.emits.table) l.initial.x.reached l.t-index l.x.reached l.x.counts l.changed
