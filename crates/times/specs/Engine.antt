-- "Specified times (Def. 7, 8, 11)", one transition at a time: what it processes, then what it emits.
use Rattle.std.specs.Prelude.{Bool, true, false, cond, List, [], ◌∷◌, ℕ, zero, suc, ◌+◌, max, length, get_or, set, ltb}
use Rattle.time.specs.Time.{horizon}
use Rattle.time.specs.declared.Specified.{Specified}
use Rattle.plan.specs.Plan.{past_node, move, emitted_by}
use Rattle.plan.specs.declared.Kind.{Kind}
use Rattle.plan.specs.declared.Node.{Node}
use Rattle.plan.specs.declared.Input.{Input}
use Rattle.plan.specs.declared.Plan.{Plan}
use Rattle.times.specs.declared.Progress.{Progress}
use Rattle.times.specs.declared.Schedule.{Schedule}
use Rattle.times.specs.declared.Advanced.{Advanced}
use Rattle.times.specs.Times.{specified, at, schedule_of, order_of}
use Rattle.times.specs.Queues.{processed_of, floor_of, emission, queued_of}

-- "a position above 1,000,000,000"
abbrev pub last_position : ℕ
last_position = 1_000_000_000

-- the times of k resources from number r on, each raised to c
unfoldable pub raised_of : ℕ → ℕ → ℕ → List Specified → List Specified
raised_of c r zero available = available
raised_of c r (suc k) available = raised_of c (r + 1) k (set available r (specified (max (at available r) c)))

-- "Processing instance k of an event makes that node precede every successor of every claim of the next activity, the
-- unnamed resources and the empty activity included.": every resource is available from its completion c on at the earliest
unfoldable pub held_of : ℕ → ℕ → Progress → Progress
held_of resources c g = record {
  available = raised_of c 0 resources g.available;
  latest = g.latest;
  lengths = g.lengths;
  pending = g.pending;
  position = g.position;
  state = g.state;
}

-- a release that completes at t makes its resource available
abbrev pub released_of : ℕ → ℕ → Progress → Progress
released_of r t g = record {
  available = set g.available r (specified t);
  latest = g.latest;
  lengths = g.lengths;
  pending = g.pending;
  position = g.position;
  state = g.state;
}

-- an event's node that completes at t: the event was last complete then, or later
abbrev pub completed_of : ℕ → ℕ → Progress → Progress
completed_of e t g = record {
  available = g.available;
  latest = set g.latest e (specified (max (at g.latest e) t));
  lengths = g.lengths;
  pending = g.pending;
  position = g.position;
  state = g.state;
}

-- what node n leaves, which is of kind k and completes at t
unfoldable pub left_by : ℕ → ℕ → Kind → Progress → Progress
left_by n t (Kind.Action a p) g = g
left_by n t (Kind.Claim r) g = g
left_by n t (Kind.Release r) g = released_of r t g
left_by n t (Kind.Event e) g = queued_of e (emission g.position n t) (completed_of e t g)

-- what the nodes leave, one after the other
unfoldable pub left_of : List Node → List Specified → List ℕ → Progress → Progress
left_of a end [] g = g
left_of a end (n ∷ ns) g = left_of a end ns (left_by n (at end n) (get_or a n past_node).kind g)

-- some of k times from number i on is above 10^15
unfoldable pub above_of : List Specified → ℕ → ℕ → Bool
above_of ts i zero = false
above_of ts i (suc k) = cond (ltb horizon (at ts i)) true (above_of ts (i + 1) k)

-- "a completion or availability of the next path above 10^15, or a position above 1,000,000,000"
unfoldable pub beyond_of : ℕ → ℕ → List Specified → Progress → Bool
beyond_of resources size end g =
    cond (ltb last_position g.position) true
    (cond (above_of end 0 size) true
    (above_of g.available 0 resources))

-- the next transition has the next position and starts at the state `to`
abbrev pub moved_of : ℕ → Progress → Progress
moved_of to g = record {
  available = g.available;
  latest = g.latest;
  lengths = g.lengths;
  pending = g.pending;
  position = g.position + 1;
  state = to;
}

unfoldable pub closed_of : ℕ → ℕ → ℕ → Schedule → Progress → Advanced
closed_of resources size to t g = record {
  beyond = beyond_of resources size t.end g;
  schedule = t;
  progress = moved_of to g;
}

-- "then emits": the nodes of the activity a, timed by t
unfoldable pub emits_of : ℕ → List Node → ℕ → Schedule → Progress → Advanced
emits_of resources a to t g = closed_of resources (length a) to t (left_of a t.end (order_of t) g)

unfoldable pub timed_of : ℕ → List Node → ℕ → Progress → Advanced
timed_of resources a to g = emits_of resources a to (schedule_of g.available g.latest a) g

-- One transition, which processes `input`, emits the activity a and leads to the state `to`.
abbrev pub advance_of : ℕ → List Node → Input → ℕ → Progress → Advanced
advance_of resources a input to g =
    timed_of resources a to (held_of resources (floor_of input g) (processed_of input g))

-- transition t of a plan, taken
abbrev pub taken_by : Plan → ℕ → Progress → Advanced
taken_by p t g =
    advance_of p.resources (emitted_by p (move p.automaton t).output) (move p.automaton t).input (move p.automaton t).to g
