-- `left` meets its contract. The loop's invariant: what all nodes leave is what those leave that are left; one case for each kind of node. Assumes nothing.
use mathlib.Core.Path.{◌≡◌}
use Prim.Native.Nat.{◌-◌}
use Rattle.basis.specs.Parts.{part}
use Rattle.plan.specs.Plan.{nodes_of}
use Rattle.times.specs.Engine.{left_of}
use Rattle.times.proofs.engine.left.Given as goal

abbrev pub invariant-loop-node : goal.invariant-loop-node
invariant-loop-node l = left_of (nodes_of l.a) l.fn.t.end (part 0 l.fn.t.order 0 l.fn.t.count) l.initial.h ≡ left_of (nodes_of l.a) l.fn.t.end (part 0 l.fn.t.order l.node-index (l.fn.t.count - l.node-index)) l.h
