-- The loop's invariant: every place that is passed is within the limits. Assumes nothing.
use Rattle.std.specs.Prelude.{◌≡◌, true, ℕ, ◌<◌, ◌/◌, ◌%◌, get_or}
use Rattle.plan.specs.Plan.{past_node}
use Rattle.plan_limits.specs.Limits.{slot_in_limits}
use Rattle.plan_limits.proofs.nodes.nodes_in_limits.Given as goal

abbrev pub invariant-loop-i : goal.invariant-loop-i
invariant-loop-i l = (k : ℕ) → k < l.i → slot_in_limits l.resources l.peripherals l.events (get_or l.sizes (k / 64) 0) (k % 64) (get_or l.nodes k past_node) ≡ true
