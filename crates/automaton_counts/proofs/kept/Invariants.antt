-- `kept` looks at all events.
use Rattle.automaton.specs.Inner.Counts.{Kept}
use Rattle.automaton_counts.specs.Inner.Emits.{gives}
use Prim.Native.Nat.{ℕ, ◌<◌}
use Rattle.automaton_counts.proofs.kept.Given as goal

abbrev pub invariant-loop-e : goal.invariant-loop-e
invariant-loop-e l = (k : ℕ) → k < l.e → Kept (gives l.emits.table) l.counts l.t k
