-- The loop's invariant: every place that is passed is within the limits. Assumes nothing.
use Rattle.std.specs.Prelude.{◌≡◌, true, ℕ, ◌<◌, ◌/◌, ◌%◌, get_or, map}
use Rattle.plan.specs.Plan.{past_node}
use Rattle.plan_limits.specs.Limits.{slot_in_limits}
use Rattle.held.specs.Held.{node_of}
use Rattle.held_checks.proofs.plans.nodes_in_limits.Given as goal

abbrev pub invariant-loop-i : goal.invariant-loop-i
invariant-loop-i l =
    (k : ℕ) → k < l.i → slot_in_limits l.plan.resources l.plan.peripherals l.plan.events (get_or l.plan.sizes (k / 64) 0) (k % 64) (get_or (map node_of l.plan.nodes) k past_node) ≡ true
