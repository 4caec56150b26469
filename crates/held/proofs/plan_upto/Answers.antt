use Rattle.std.specs.Prelude.{◌≡◌, ◌*◌, length, replicate}
use Rattle.std.proofs.Common.{refl, ◌∙◌, ap, arith}
use Rattle.basis.proofs.Laws.Lists.{unmapped}
use Rattle.plan.specs.Nodes.{zero_node}
use Rattle.plan.specs.declared.Node.{Node}
use Rattle.held.specs.declared.HeldNode.{HeldNode}
use Rattle.held.specs.Held.{node_of}
use Rattle.held.proofs.Filled.{fill_turn, fill_all}
use Rattle.held.proofs.plan_upto.Invariants.{having, none}
use Rattle.held.proofs.plan_upto.Goals as goal

pub loop-i-init : goal.loop-i-init
loop-i-init c = none c.args.h _ _ c.moves_upto-moves.ensures refl

pub loop-i-preserved : goal.loop-i-preserved
loop-i-preserved c =
    let h = c.args.h in
    let long : length h.nodes ≡ 2048 = search unmapped in
    rw (c.loop-i.invariant, c.from-in-loop-i.ensures) (ap (having h) (fill_turn HeldNode Node node_of h.nodes (replicate 2048 zero_node) _ _ c.loop-i.i (omega (arith, long)) (long) refl))

pub returns : goal.returns
returns c =
    let h = c.args.h in
    let long : length h.nodes ≡ 2048 = search unmapped in
    c.loop-i.invariant ∙ ap (having h) (fill_all HeldNode Node node_of h.nodes (replicate 2048 zero_node) c.loop-i.i (64 * h.activities) (omega (arith, long)) (long))
