-- `nodes::nodes_in_limits` is what it is defined to be. Assumes nothing.
use Rattle.std.specs.Prelude.{◌*◌, ◌/◌, ◌%◌, get_or}
use Rattle.std.proofs.Common.{sym, ◌∙◌, arith}
use Rattle.plan.specs.Plan.{past_node}
use Rattle.plan_limits.specs.Limits.{slot_in_limits, nodes_in_limits}
use Rattle.plan_limits.proofs.Laws.Every.{every_all, every_not}
use Rattle.plan_limits.proofs.nodes.nodes_in_limits.Goals as goal

pub returns-then-not-slot_in_limits : goal.returns-then-not-slot_in_limits
unfolding nodes_in_limits
returns-then-not-slot_in_limits c =
    let a = c.args in
    sym (every_not (λ k. slot_in_limits a.resources a.peripherals a.events (get_or a.sizes (k / 64) 0) (k % 64) (get_or a.nodes k past_node)) (64 * a.activities) c.loop-i.i (omega arith) (sym c.slot_in_limits.ensures ∙ c.if-not-slot_in_limits.true))

pub returns : goal.returns
unfolding nodes_in_limits
returns c =
    let a = c.args in
    sym (every_all (λ k. slot_in_limits a.resources a.peripherals a.events (get_or a.sizes (k / 64) 0) (k % 64) (get_or a.nodes k past_node)) (64 * a.activities) (λ k l. c.loop-i.invariant k (omega arith)))
