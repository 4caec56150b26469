-- `written::nodes_written` is what it is defined to be. Assumes nothing.
use Rattle.std.specs.Prelude.{◌*◌, ◌/◌, ◌%◌, get_or}
use Rattle.std.proofs.Common.{sym, ◌∙◌, arith}
use Rattle.plan.specs.Plan.{past_node}
use Rattle.plan_limits.specs.Limits.{slot_written, nodes_written}
use Rattle.plan_limits.proofs.Laws.Every.{every_all, every_not}
use Rattle.plan_limits.proofs.written.nodes_written.Goals as goal

pub returns-then-not-slot_written : goal.returns-then-not-slot_written
unfolding nodes_written
returns-then-not-slot_written c =
    let a = c.args in
    sym (every_not (λ k. slot_written (get_or a.sizes (k / 64) 0) (k % 64) (get_or a.nodes k past_node)) (64 * a.activities) c.loop-i.i (omega arith) (sym c.slot_written.ensures ∙ c.if-not-slot_written.true))

pub returns : goal.returns
unfolding nodes_written
returns c =
    let a = c.args in
    sym (every_all (λ k. slot_written (get_or a.sizes (k / 64) 0) (k % 64) (get_or a.nodes k past_node)) (64 * a.activities) (λ k l. c.loop-i.invariant k (omega arith)))
