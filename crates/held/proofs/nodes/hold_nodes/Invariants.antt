use Rattle.std.specs.Prelude.{◌≡◌, length}
use Rattle.plan.specs.declared.Node.{Node}
use Rattle.held.specs.declared.HeldNode.{HeldNode}
use Rattle.held.specs.Held.{held_node}
use Rattle.held.proofs.Filled.{filled}
use Rattle.held.proofs.nodes.hold_nodes.Given as goal

abbrev pub invariant-loop-i : goal.invariant-loop-i
invariant-loop-i l = (length l.initial.held ≡ 2048) × (l.held ≡ filled Node HeldNode held_node l.nodes l.initial.held l.i)
