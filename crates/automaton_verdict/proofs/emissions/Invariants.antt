-- `emissions` fills the table activity by activity, and node by node.
use Rattle.std.specs.Prelude.{◌+◌, ◌*◌}
use Rattle.automaton_verdict.proofs.Counting.{Counting}
use Rattle.automaton_verdict.proofs.emissions.Given as goal

abbrev pub invariant-loop-k : goal.invariant-loop-k
invariant-loop-k l = Counting l.plan (64 * l.k) l.em

abbrev pub invariant-loop-node : goal.invariant-loop-node
invariant-loop-node l = Counting l.fn.plan (64 * l.k + l.node-index) l.em
