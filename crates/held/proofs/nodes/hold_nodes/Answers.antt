use Rattle.std.specs.Prelude.{◌≡◌, length, refl}
use Rattle.std.proofs.Common.{◌∙◌, arith, rules}
use Rattle.plan.specs.declared.Node.{Node}
use Rattle.held.specs.declared.HeldNode.{HeldNode}
use Rattle.held.specs.Held.{held_node}
use Rattle.held.proofs.Filled.{fill_turn, fill_end}
use Rattle.held.proofs.nodes.hold_nodes.Goals as goal

pub loop-i-init : goal.loop-i-init
loop-i-init c = (refl, refl)

pub loop-i-preserved : goal.loop-i-preserved
loop-i-preserved c =
    let long : length c.args.nodes ≡ 2048 = search rules in
    (refl, rw c.from.ensures (fill_turn Node HeldNode held_node c.args.nodes _ _ _ _ (omega (arith, long)) (long) c.loop-i.invariant.1))

pub returns : goal.returns
returns c =
    let long : length c.args.nodes ≡ 2048 = search rules in
    simp (c.loop-i.invariant.1 ∙ fill_end Node HeldNode held_node c.args.nodes _ c.loop-i.i (omega (arith, long)) (long))
