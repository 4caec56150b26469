-- `advance` sets the counts of one state event by event.
use Rattle.automaton.specs.Inner.Passes.{Advanced}
use Rattle.automaton_counts.specs.Inner.Emits.{gives}
use Rattle.automaton_counts.proofs.counting.advance.Given as goal

abbrev pub invariant-loop-e : goal.invariant-loop-e
invariant-loop-e l = Advanced (gives l.emits.table) l.initial.counts l.t.from l.t.to l.t.input l.t.output l.e l.counts
