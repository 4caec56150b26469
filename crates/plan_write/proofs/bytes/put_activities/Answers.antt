use Rattle.std.specs.Prelude.{◌≡◌, refl, ◌+◌, ◌-◌, ◌*◌}
use Rattle.std.proofs.Common.{◌∙◌, arith, add-zero}
use Rattle.std.proofs.Math.Nat.{sub-zero}
use Rattle.wire.proofs.Laws.Puts.{puts_byte}
use Rattle.plan.specs.Limits.{node_at}
use Rattle.plan_write.proofs.Laws.Left.{left_next, left_done, node_turn, activity_turn, activity_end}
use Rattle.plan_write.proofs.Laws.Printed.{node_length}
use Rattle.plan_write.proofs.bytes.put_activities.Goals as goal

pub loop-n-init : goal.loop-n-init
loop-n-init c =
    let a = c.loop-a.a in
    record {
      off = omega (arith, c.put_byte-off.ensures.past);
      long = c.put_byte-off.auto.out ∙ c.loop-a.invariant.long;
      left = rw (add-zero, sub-zero, c.from-n-end.ensures) (left_next _ _ _ c.loop-a.out _ c.loop-a.off _ _ _ _ (activity_turn c.args.plan a 0 0 refl (omega arith)) c.loop-a.invariant.left (puts_byte (omega arith) c.put_byte-off.ensures));
    }

pub loop-n-preserved : goal.loop-n-preserved
loop-n-preserved c =
    let a = c.loop-a.a in
    let n = c.loop-n.n in
    let next : 64 * a + (n + 1) ≡ 64 * a + n + 1 = omega arith in
    let few = (c.requires.1.nodes a n (omega arith) (omega arith)).few in
    record {
      off = omega (arith, c.put_node-off.ensures.past, node_length (node_at c.args.plan a n) few);
      long = c.put_node-off.auto.out ∙ c.loop-n.invariant.long;
      left = rw next (left_next _ _ _ c.loop-n.out _ c.loop-n.off _ _ _ _ (node_turn c.args.plan (a + 1) (64 * a + n) (c.from-n-end.result - n) (c.from-n-end.result - (n + 1)) (omega arith)) c.loop-n.invariant.left c.put_node-off.ensures);
    }

pub returns : goal.returns
returns c = (omega arith, left_done _ _ _ c.loop-a.out c.loop-a.off _ (activity_end c.args.plan c.loop-a.a 0 0 refl (omega arith)) c.loop-a.invariant.left)
