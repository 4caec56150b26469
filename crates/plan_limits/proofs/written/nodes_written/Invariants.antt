-- The loop's invariant: every place that is passed can be written. Assumes nothing.
use Rattle.std.specs.Prelude.{◌≡◌, true, ℕ, ◌<◌, ◌/◌, ◌%◌, get_or}
use Rattle.plan.specs.Plan.{past_node}
use Rattle.plan_limits.specs.Limits.{slot_written}
use Rattle.plan_limits.proofs.written.nodes_written.Given as goal

abbrev pub invariant-loop-i : goal.invariant-loop-i
invariant-loop-i l = (k : ℕ) → k < l.i → slot_written (get_or l.sizes (k / 64) 0) (k % 64) (get_or l.nodes k past_node) ≡ true
