-- Each pass of `to_final` that marks a state leaves fewer; the flags are determined by what they tell.
use Rattle.basis.specs.Tests.{falses}
use Rattle.automaton.specs.Inner.Passes.{Backing}
use mathlib.Core.Bool.{false}
use Rattle.automaton_counts.proofs.final_states.to_final.Given as goal

abbrev pub invariant-loop : goal.invariant-loop
invariant-loop l = Backing l.a l.done 0 l.done false

abbrev pub decreases-loop : goal.decreases-loop
decreases-loop l = falses l.done
