-- One transition of an accepted plan, as the engine computes it, is a step as the theorems about the combined activity
-- ask for: the processed instance, the times of the nodes, the availabilities, and the order of the emitted instances.
use Rattle.std.specs.Prelude.{◌≡◌, ◌⊎◌, length}
use Rattle.std.proofs.Math.Path.{refl, ap}
use Rattle.std.proofs.Common.{◌∙◌, inl, inr}
use mathlib.Core.List.{List, [], ◌∷◌, ◌++◌, map}
use Prim.Native.Nat.{ℕ, ◌+◌, ◌<◌, max}
use native.Mathlib.Omega.{arith}
use Rattle.basis.specs.Lists.{Among}
use Rattle.basis.proofs.Laws.Lists.{map-append}
use Rattle.time.specs.declared.Specified.{Specified}
use Rattle.plan.specs.Plan.{predecessors, events_in}
use Rattle.plan.specs.declared.Kind.{Kind}
use Rattle.plan.specs.declared.Node.{Node}
use Rattle.plan.specs.declared.Input.{Input}
use Rattle.activity.specs.Rules.{node}
use Rattle.times_combined.specs.Combined.{NotClaim}
use Rattle.times_combined.proofs.Laws.Engine.{latest, held, Timed, Emits, raised, Available, Steps}
use Rattle.times.specs.declared.Progress.{Progress}
use Rattle.times.specs.declared.Schedule.{Schedule}
use Rattle.times.specs.Times.{at, largest_of, start_by, start_of, schedule_of, order_of}
use Rattle.times.specs.Queues.{pending_of, queue_of, processed_of, floor_of}
use Rattle.times.specs.Engine.{held_of, left_of, closed_of, emits_of, timed_of, advance_of}
use Rattle.times.proofs.Laws.Fits.{processed_available, processed_latest, processed_position}
use Rattle.times_equal.proofs.Laws.Seen.{completion, seen, emitted, instances, Whole, Ready}
use Rattle.times_equal.proofs.Laws.AllDone.{Finished, finished}
use Rattle.times_equal.proofs.Laws.Queue.{processed_floor, processed_queue, processed_whole}
use Rattle.times_equal.proofs.Laws.Left.{raised_at_lem, raised_length, left_whole, left_free, left_last, left_queue}
use Rattle.times_equal.proofs.Laws.Events as Events

largest_latest : (end : List Specified) (ms : List ℕ) → largest_of end ms ≡ latest (at end) ms
unfolding largest_of
largest_latest end [] = refl
largest_latest end (m ∷ ms) = ap (max (at end m)) (largest_latest end ms)

start_claim : (available last : List Specified) (m r : ℕ) (k : Kind) → k ≡ Kind.Claim r → start_by available last m k ≡ at available r
start_claim available last m r k e = ap (start_by available last m) e

start_other : (available last : List Specified) (m : ℕ) (k : Kind) → NotClaim k → start_by available last m k ≡ max m (held (at last) k)
start_other available last m (Kind.Action x p) h = omega arith
start_other available last m (Kind.Claim r) h = absurd h
start_other available last m (Kind.Release r) h = omega arith
start_other available last m (Kind.Event e) h = refl

completions : (end : List Specified) (p : ℕ) (ns : List ℕ) → map completion (instances end p ns) ≡ map (at end) ns
completions end p [] = refl
completions end p (n ∷ ns) = ap (λ ls. at end n ∷ ls) (completions end p ns)

module _ (R : ℕ) (belongs : ℕ → ℕ) (a : List Node) (i : Input) (to : ℕ) (g : Progress) (ready : Ready R belongs a i g) where
  -- the numbers before the nodes are worked out, the nodes' times, and the numbers after them
  abbrev before : Progress
  before = held_of R (floor_of i g) (processed_of i g)

  abbrev t : Schedule
  t = schedule_of before.available before.latest a

  abbrev after : Progress
  after = left_of a t.end (order_of t) before

  -- what the transition answers
  answered : ((advance_of R a i to g).schedule ≡ t) × ((advance_of R a i to g).progress.available ≡ after.available) × ((advance_of R a i to g).progress.latest ≡ after.latest) × ((advance_of R a i to g).progress.lengths ≡ after.lengths) × ((advance_of R a i to g).progress.pending ≡ after.pending)
  unfolding timed_of emits_of closed_of
  answered = (refl, refl, refl, refl, refl)

  whole_before : Whole before
  unfolding held_of
  whole_before =
      let w = processed_whole i g ready.whole ready.processes in
      record { available = raised_length (floor_of i g) R 0 (processed_of i g).available ∙ w.available; latest = w.latest; lengths = w.lengths; pending = w.pending }

  raised_before : (r : ℕ) → r < R → at before.available r ≡ raised (seen g) (floor_of i g) r
  unfolding held_of
  raised_before r l =
      raised_at_lem (floor_of i g) R (processed_of i g).available r l (let u = (processed_whole i g ready.whole ready.processes).available in let v = ready.resources in omega arith)
      ∙ ap (λ (ts : List Specified). max (at ts r) (floor_of i g)) (processed_available i g)

  last_before : before.latest ≡ g.latest
  unfolding held_of
  last_before = processed_latest i g

  done : Finished before.available before.latest a ready.size ready.good.inside ready.good.meets.no_cycle_lem t
  done = finished before.available before.latest a ready.size ready.good.inside ready.good.meets.no_cycle_lem

  listed : (n : ℕ) → n < length a → Among n (order_of t)
  listed n l = done.laid.listed n (done.all n l)

  start_of_lem : (n : ℕ) → n < length a → at t.start n ≡ start_by before.available before.latest (latest (at t.end) (predecessors (node a n))) (node a n).kind
  unfolding start_of
  start_of_lem n l = done.laid.start n (listed n l) ∙ ap (λ (m : ℕ). start_by before.available before.latest m (node a n).kind) (largest_latest t.end (predecessors (node a n)))

  timed : Timed a (raised (seen g) (floor_of i g)) (seen g).last (at t.start) (at t.end)
  timed = record {
    claims = λ n r h.
        start_of_lem n h.within ∙ start_claim before.available before.latest (latest (at t.end) (predecessors (node a n))) r (node a n).kind h.kind
        ∙ raised_before r (ready.good.named n r h);
    others = λ n l h.
        start_of_lem n l ∙ start_other before.available before.latest (latest (at t.end) (predecessors (node a n))) (node a n).kind h
        ∙ ap (λ (ts : List Specified). max (latest (at t.end) (predecessors (node a n))) (held (at ts) (node a n).kind)) last_before;
    ends = λ n l. done.laid.end n (listed n l);
  }

  emits : (e : ℕ) → Emits a e (emitted a t e)
  emits e = Events.emits a e (order_of t) done.laid.sorted done.laid.distinct done.laid.within listed ready.good.meets.rule_XI

  named : (n f : ℕ) → Among n (order_of t) → (node a n).kind ≡ Kind.Event f → f < 16
  named n f j e = ready.events n f (record { within = done.laid.within n j; kind = e })

  free : (r : ℕ) → r < R → Available a (at t.end) (seen g) (floor_of i g) r (at after.available r)
  free r l = go (left_free a t.end (order_of t) before r whole_before (let u = ready.resources in omega arith))
    where
      go : ((n : ℕ) × Among n (order_of t) × ((node a n).kind ≡ Kind.Release r) × (at after.available r ≡ at t.end n)) ⊎ (((n : ℕ) → Among n (order_of t) → (node a n).kind ≡ Kind.Release r → ⊥) × (at after.available r ≡ at before.available r)) → Available a (at t.end) (seen g) (floor_of i g) r (at after.available r)
      go (inl h) = inl (h.0, record { within = done.laid.within h.0 h.1; kind = h.2 }, h.3)
      go (inr h) =
          inr (
            record {
              unclaimed = λ n c. (let v = ready.good.meets.rule_VII n r c in h.0 v.0 (listed v.0 v.1.within) v.1.kind);
              unreleased = λ n c. h.0 n (listed n c.within) c.kind;
            },
            h.1 ∙ raised_before r l,
          )

  pending_before : (e : ℕ) → pending_of before e ≡ pending_of (processed_of i g) e
  unfolding held_of
  pending_before e = refl

  queue_before : (e : ℕ) → queue_of before e ≡ queue_of (processed_of i g) e
  unfolding held_of
  queue_before e = refl

  position_before : before.position ≡ g.position
  unfolding held_of
  position_before = processed_position i g

  queued : (e : ℕ) → (queue_of after e ≡ queue_of before e ++ instances t.end before.position (emitted a t e)) × (pending_of after e ≡ pending_of before e + length (emitted a t e))
  queued e =
      left_queue a t.end (order_of t) before e whole_before named
      (let u = ready.room e in let v = Events.how_many e a (emitted a t e) (emits e) in let w = pending_before e in omega arith)

  -- ---- what a reader gets

  -- the transition is a step
  pub steps : Steps R (record { input = i; output = a }) (seen g) (floor_of i g) (at (advance_of R a i to g).schedule.start) (at (advance_of R a i to g).schedule.end) (emitted a (advance_of R a i to g).schedule) (seen (advance_of R a i to g).progress)
  unfolding timed_of emits_of closed_of
  steps = record {
    floor = processed_floor i g ready.processes;
    timed = timed;
    free = free;
    emits = emits;
    last = λ e. left_last a t.end (order_of t) before e whole_before named ∙ ap (λ (ts : List Specified). max (at ts e) (latest (at t.end) (emitted a t e))) last_before;
    queue = λ e.
        ap (map completion) (queued e).0 ∙ map-append completion (queue_of before e) (instances t.end before.position (emitted a t e))
        ∙ ap (λ ls. map completion (queue_of before e) ++ ls) (completions t.end before.position (emitted a t e))
        ∙ ap (λ ls. ls ++ map (at t.end) (emitted a t e)) (ap (map completion) (queue_before e) ∙ processed_queue i g ready.whole ready.processes ready.few e);
  }

  -- the instances that it emits join the queue, in the order of "before", with their position and node
  pub queue_grows : (e : ℕ) → queue_of (advance_of R a i to g).progress e ≡ queue_of (processed_of i g) e ++ instances (advance_of R a i to g).schedule.end g.position (emitted a (advance_of R a i to g).schedule e)
  unfolding timed_of emits_of closed_of
  queue_grows e = (queued e).0 ∙ ap (λ (p : ℕ). queue_of before e ++ instances t.end p (emitted a t e)) position_before ∙ ap (λ q. q ++ instances t.end g.position (emitted a t e)) (queue_before e)

  -- as many as the activity has nodes of the event
  pub pending_grows : (e : ℕ) → pending_of (advance_of R a i to g).progress e ≡ pending_of (processed_of i g) e + events_in e a
  unfolding timed_of emits_of closed_of
  pending_grows e = let u = (queued e).1 in let v = Events.how_many e a (emitted a t e) (emits e) in let w = pending_before e in omega arith

  -- the arrays keep their lengths
  pub whole_after : Whole (advance_of R a i to g).progress
  unfolding timed_of emits_of closed_of
  whole_after =
      let w = left_whole a t.end (order_of t) before whole_before in
      record { available = w.available; latest = w.latest; lengths = w.lengths; pending = w.pending }
