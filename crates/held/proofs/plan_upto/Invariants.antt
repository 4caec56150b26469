-- `plan_upto` has all but the nodes, and fills in the first of them, one after the other.
use mathlib.Core.Path.{◌≡◌}
use mathlib.Core.List.{List}
use lib.ListN.{replicate}
use Rattle.plan.specs.Nodes.{zero_node}
use Rattle.plan.specs.declared.Node.{Node}
use Rattle.plan.specs.declared.Plan.{Plan}
use Rattle.plan.specs.declared.Transition.{Transition}
use Rattle.held.specs.declared.HeldPlan.{HeldPlan}
use Rattle.held.specs.Inner.Plans.{nodes_upto, moves_upto, plan_with}
use Rattle.held.proofs.plan_upto.Given as goal

-- with its transitions and these nodes
abbrev pub having : HeldPlan → List Node → Plan
having h nodes = plan_with h nodes (moves_upto h.count h.moves)

-- no node yet
pub none : (h : HeldPlan) (moves : List Transition) (z : Node) → moves ≡ moves_upto h.count h.moves → z ≡ zero_node → plan_with h (replicate 2048 z) moves ≡ having h (nodes_upto 0 h.nodes)
none h moves z m e = rw (m, e)

abbrev pub invariant-loop-i : goal.invariant-loop-i
invariant-loop-i l = l.plan ≡ having l.h (nodes_upto l.i l.h.nodes)
