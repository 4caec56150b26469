-- The test `progress_in_limits` tells exactly what is in limits of what is stored between transitions. Assumes nothing.
use Rattle.std.specs.Prelude.{List, ℕ, ◌+◌, ◌<◌, ◌≤◌, get_or}
use Rattle.std.proofs.Common.{arith}
use Rattle.basis.specs.Inner.Tells.{Tells, holds}
use Rattle.basis.proofs.Laws.Tells.{tells_iff, tells_and, tells_ltb, tells_leb, tells_then}
use Rattle.basis.proofs.Laws.Every.{tells_every}
use Rattle.time.specs.Time.{horizon}
use Rattle.time.specs.declared.Specified.{Specified}
use Rattle.plan.specs.declared.Plan.{Plan}
use Rattle.times.specs.declared.Told.{Told}
use Rattle.times.specs.declared.Instance.{Instance}
use Rattle.times.specs.declared.Progress.{Progress}
use Rattle.times.specs.Times.{at}
use Rattle.times.specs.Queues.{no_instance, pending_of, instance_of}
use Rattle.times.specs.Engine.{last_position}
use Rattle.times.specs.Limits.{ToldNames, InstanceInLimits, ProgressInLimits}
use Rattle.run_limits.specs.Progress.{times_in_limits, told_names, instance_in_limits, place_in_limits, pending_in_limits, progress_fits, progress_in_limits}
use Rattle.plan_limits.proofs.Laws.Tells.{tells_used, tells_within, tells_places}

tells_times : (count : ℕ) (times : List Specified) → Tells (times_in_limits count times) ((i : ℕ) → i < count → at times i ≤ horizon)
unfolding times_in_limits
tells_times count times = tells_every _ (λ i. at times i ≤ horizon) count (λ i l. tells_leb (at times i) horizon)

tells_told : (outcomes : ℕ) (t : Told) → Tells (told_names outcomes t) (ToldNames outcomes t)
tells_told outcomes Told.Nothing = holds tt
tells_told outcomes (Told.Outcome o) = tells_ltb o outcomes

pub tells_instance : (outcomes : ℕ) (x : Instance) → Tells (instance_in_limits outcomes x) (InstanceInLimits outcomes x)
unfolding instance_in_limits
tells_instance outcomes x =
    tells_iff (
      λ q. record { position = q.0; node = q.1.0; end = q.1.1.0; told = q.1.1.1 },
      λ r. (r.position, (r.node, (r.end, r.told))),
    )
    (tells_and (tells_leb x.position last_position)
    (tells_and (tells_ltb x.node 64)
    (tells_and (tells_leb x.end.0 horizon) (tells_told outcomes x.told))))

module _ (events : ℕ) (outcomes : List ℕ) (g : Progress) where
  tells_pending : ((e : ℕ) → e < events → pending_of g e ≤ 8) → Tells (pending_in_limits events outcomes g.lengths g.pending) ((e i : ℕ) → e < events → i < pending_of g e → InstanceInLimits (get_or outcomes e 0) (instance_of g e i))
  unfolding pending_in_limits place_in_limits
  tells_pending fits =
      tells_places 8 events (omega arith) (pending_of g) fits
      (λ e i j. place_in_limits (get_or outcomes e 0) (pending_of g e) i (get_or g.pending j no_instance))
      (λ e i. InstanceInLimits (get_or outcomes e 0) (instance_of g e i))
      (λ e i. tells_used (pending_of g e) i (tells_instance (get_or outcomes e 0) (instance_of g e i)))

pub tells_fits : (resources events states : ℕ) (outcomes : List ℕ) (g : Progress) → Tells (progress_fits resources events states outcomes g) (ProgressInLimits resources events states outcomes g)
unfolding progress_fits
tells_fits resources events states outcomes g =
    tells_iff (
      λ q. record {
        available = q.0;
        latest = q.1.0;
        lengths = λ e l. let h = (q.1.1.0 e l).1 in omega arith;
        pending = q.1.1.1.0;
        position = q.1.1.1.1.0;
        state = q.1.1.1.1.1;
      },
      λ r. (
        r.available,
        (
          r.latest,
          (
            λ e l. let h = r.lengths e l in (omega arith, omega arith),
            (r.pending, (r.position, r.state)),
          ),
        ),
      ),
    )
    (tells_and (tells_times resources g.available)
    (tells_and (tells_times events g.latest)
    (tells_then (tells_within 0 9 events g.lengths)
    (λ h. tells_and (tells_pending events outcomes g (λ e l. let s = (h e l).1 in omega arith))
    (tells_and (tells_leb g.position (last_position + 1)) (tells_ltb g.state states))))))

-- of any plan
pub tells_stored : (p : Plan) (g : Progress) → Tells (progress_in_limits p g) ((p.resources ≤ 16) × (p.events ≤ 16) × ProgressInLimits p.resources p.events p.automaton.states p.outcomes g)
unfolding progress_in_limits
tells_stored p g =
    tells_iff (λ q. (q.0, q.1.0, q.1.1), λ r. (r.0, (r.1, r.2)))
    (tells_and (tells_leb p.resources 16)
    (tells_and (tells_leb p.events 16) (tells_fits p.resources p.events p.automaton.states p.outcomes g)))

-- of a plan with at most 16 resources and events, as every plan in limits
pub tells_progress : (p : Plan) → p.resources ≤ 16 → p.events ≤ 16 → (g : Progress) → Tells (progress_in_limits p g) (ProgressInLimits p.resources p.events p.automaton.states p.outcomes g)
tells_progress p few less g = tells_iff (λ q. q.2, λ r. (few, less, r)) (tells_stored p g)
