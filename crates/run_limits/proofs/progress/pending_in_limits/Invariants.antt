-- The loop's invariant: every place that is passed is within the limits. Assumes nothing.
use Rattle.std.specs.Prelude.{◌≡◌, true, ℕ, ◌<◌, ◌/◌, ◌%◌, get_or}
use Rattle.times.specs.Queues.{no_instance}
use Rattle.run_limits.specs.Progress.{place_in_limits}
use Rattle.run_limits.proofs.progress.pending_in_limits.Given as goal

abbrev pub invariant-loop-i : goal.invariant-loop-i
invariant-loop-i l = (k : ℕ) → k < l.i → place_in_limits (get_or l.outcomes (k / 8) 0) (get_or l.lengths (k / 8) 0) (k % 8) (get_or l.pending k no_instance) ≡ true
