use Rattle.std.specs.Prelude.{◌≡◌, ◌*◌, ◌/◌, ◌%◌, ◌<◌, ℕ, get_or, length, map, List}
use Rattle.std.proofs.Common.{sym, ap, ◌∙◌, arith, below_more}
use borrow.Author.Tests.{le-leb, lt-leb}
use Rattle.basis.proofs.Laws.Lists.{unmapped}
use Rattle.plan.specs.declared.Node.{Node}
use Rattle.plan.specs.Plan.{past_node}
use Rattle.plan_limits.proofs.Laws.Every.{every_all, every_not}
use Rattle.plan_limits.specs.Limits.{slot_in_limits, nodes_in_limits}
use Rattle.held.specs.declared.HeldNode.{HeldNode}
use Rattle.held.specs.Held.{node_of}
use Rattle.held_checks.specs.Inner.Limits.{nodes_good}
use Rattle.held_checks.proofs.Mapped.{mapped_at}
use Rattle.held_checks.proofs.plans.nodes_in_limits.Goals as goal

-- what is read at a place is the node that its numbers stand for
read : (nodes : List HeldNode) (d : HeldNode) {n : Node} (i : ℕ) → i < length nodes → n ≡ node_of (get_or nodes i d) → n ≡ get_or (map node_of nodes) i past_node
read nodes d i h e = e ∙ sym (mapped_at HeldNode Node node_of nodes past_node d i h)

pub returns-then-plan-gt32 : goal.returns-then-plan-gt32
unfolding nodes_good
returns-then-plan-gt32 c =
    let p = c.args.plan in
    let long : length p.nodes ≡ 2048 = search unmapped in
    (rw (lt-leb _ _ c.if-plan-gt32.true), ap (λ (n : Node). n.kind) (read p.nodes _ c.args.k (omega (arith, long)) c.from-named.ensures))

pub returns-then-not-slot_in_limits : goal.returns-then-not-slot_in_limits
unfolding nodes_good nodes_in_limits
returns-then-not-slot_in_limits c =
    let p = c.args.plan in
    let i = c.loop-i.i in
    let long : length p.nodes ≡ 2048 = search unmapped in
    let made = read p.nodes _ i (omega (arith, long)) c.from-node.ensures in
    let bad = every_not (λ k. slot_in_limits p.resources p.peripherals p.events (get_or p.sizes (k / 64) 0) (k % 64) (get_or (map node_of p.nodes) k past_node)) (64 * p.activities) i (omega arith) (rw (← made, ← c.slot_in_limits.ensures) c.if-not-slot_in_limits.true) in
    (rw (le-leb _ _ c.if-plan-gt32.false, bad), ap (λ (n : Node). n.kind) (read p.nodes _ c.args.k (omega (arith, long)) c.from-named.ensures))

pub loop-i-preserved : goal.loop-i-preserved
loop-i-preserved c =
    let p = c.args.plan in
    let i = c.loop-i.i in
    let long : length p.nodes ≡ 2048 = search unmapped in
    let made = read p.nodes _ i (omega (arith, long)) c.from-node.ensures in
    below_more _ i c.loop-i.invariant (rw (← made, ← c.slot_in_limits.ensures) c.if-not-slot_in_limits.false)

pub returns : goal.returns
unfolding nodes_good nodes_in_limits
returns c =
    let p = c.args.plan in
    let long : length p.nodes ≡ 2048 = search unmapped in
    let all = every_all (λ k. slot_in_limits p.resources p.peripherals p.events (get_or p.sizes (k / 64) 0) (k % 64) (get_or (map node_of p.nodes) k past_node)) (64 * p.activities) (λ k l. c.loop-i.invariant k (omega arith)) in
    (rw (le-leb _ _ c.if-plan-gt32.false, all), ap (λ (n : Node). n.kind) (read p.nodes _ c.args.k (omega (arith, long)) c.from-named.ensures))
