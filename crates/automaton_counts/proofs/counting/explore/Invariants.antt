-- Each pass of `explore` that reaches a state leaves fewer; what the last one leaves is known.
use Rattle.basis.specs.Tests.{falses}
use Rattle.automaton_counts.specs.Inner.Emits.{gives}
use Rattle.automaton.specs.Inner.Passes.{Going}
use mathlib.Core.Bool.{false}
use Rattle.automaton_counts.proofs.counting.explore.Given as goal

abbrev pub invariant-loop : goal.invariant-loop
invariant-loop l = Going l.a (gives l.emits.table) l.x.reached 0 l.x.reached l.x.counts false

abbrev pub decreases-loop : goal.decreases-loop
decreases-loop l = falses l.x.reached
