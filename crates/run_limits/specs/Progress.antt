-- The limits of what is stored between transitions (number 50), as tests. That they tell exactly what is in limits is proved
-- in Laws/Stored.
use Rattle.std.specs.Prelude.{Bool, true, ◌&&◌, ◌||◌, List, ℕ, ◌*◌, ◌+◌, ◌/◌, ◌%◌, get_or, ltb, leb}
use Rattle.basis.specs.Tests.{every}
use Rattle.time.specs.Time.{horizon}
use Rattle.time.specs.declared.Specified.{Specified}
use Rattle.plan.specs.declared.Plan.{Plan}
use Rattle.times.specs.declared.Told.{Told}
use Rattle.times.specs.declared.Instance.{Instance}
use Rattle.times.specs.declared.Progress.{Progress}
use Rattle.times.specs.Times.{at}
use Rattle.times.specs.Queues.{no_instance}
use Rattle.times.specs.Engine.{last_position}
use Rattle.plan_limits.specs.Limits.{within}

-- times at most 10^15
unfoldable pub times_in_limits : ℕ → List Specified → Bool
times_in_limits count times = every count (λ i. leb (at times i) horizon)

-- a reported outcome is one of the event's outcomes
abbrev pub told_names : ℕ → Told → Bool
told_names outcomes Told.Nothing = true
told_names outcomes (Told.Outcome o) = ltb o outcomes

-- a pending instance of an event that has so many outcomes
unfoldable pub instance_in_limits : ℕ → Instance → Bool
instance_in_limits outcomes x =
    leb x.position last_position
    && (ltb x.node 64 && (leb x.end.0 horizon && told_names outcomes x.told))

-- place i of a queue of `size` instances: an instance, or spare room
unfoldable pub place_in_limits : ℕ → ℕ → ℕ → Instance → Bool
place_in_limits outcomes size i x = leb size i || instance_in_limits outcomes x

-- instance i of event e stands at 8 * e + i
unfoldable pub pending_in_limits : ℕ → List ℕ → List ℕ → List Instance → Bool
pending_in_limits events outcomes lengths pending =
    every (8 * events)
    (λ i. place_in_limits (get_or outcomes (i / 8) 0) (get_or lengths (i / 8) 0) (i % 8) (get_or pending i no_instance))

-- of a plan with so many resources, events and states, and with the outcomes of each event; "at most 8 of one event
-- are pending"
unfoldable pub progress_fits : ℕ → ℕ → ℕ → List ℕ → Progress → Bool
progress_fits resources events states outcomes g =
    times_in_limits resources g.available
    && (times_in_limits events g.latest
    && (within 0 9 events g.lengths
    && (pending_in_limits events outcomes g.lengths g.pending
    && (leb g.position (last_position + 1) && ltb g.state states))))

-- the same of any counts: with more than 16 resources or events there is no such place
abbrev pub progress_within : ℕ → ℕ → ℕ → List ℕ → Progress → Bool
progress_within resources events states outcomes g = leb resources 16 && (leb events 16 && progress_fits resources events states outcomes g)

-- where a behaviour of a plan stands
unfoldable pub progress_in_limits : Plan → Progress → Bool
progress_in_limits p g = progress_within p.resources p.events p.automaton.states p.outcomes g
