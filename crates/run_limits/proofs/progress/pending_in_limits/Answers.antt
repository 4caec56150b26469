-- `progress::pending_in_limits` is what it is defined to be. Assumes nothing.
use Rattle.std.specs.Prelude.{◌*◌, ◌/◌, ◌%◌, get_or}
use Rattle.std.proofs.Common.{sym, ◌∙◌, arith}
use Rattle.plan_limits.proofs.Laws.Every.{every_all, every_not}
use Rattle.times.specs.Queues.{no_instance}
use Rattle.run_limits.specs.Progress.{place_in_limits, pending_in_limits}
use Rattle.run_limits.proofs.progress.pending_in_limits.Goals as goal

pub returns-then-not-place_in_limits : goal.returns-then-not-place_in_limits
unfolding pending_in_limits
returns-then-not-place_in_limits c =
    let a = c.args in
    sym (every_not (λ k. place_in_limits (get_or a.outcomes (k / 8) 0) (get_or a.lengths (k / 8) 0) (k % 8) (get_or a.pending k no_instance)) (8 * a.events) c.loop-i.i (omega arith) (sym c.place_in_limits.ensures ∙ c.if-not-place_in_limits.true))

pub returns : goal.returns
unfolding pending_in_limits
returns c =
    let a = c.args in
    sym (every_all (λ k. place_in_limits (get_or a.outcomes (k / 8) 0) (get_or a.lengths (k / 8) 0) (k % 8) (get_or a.pending k no_instance)) (8 * a.events) (λ k l. c.loop-i.invariant k (omega arith)))
