-- What the functions inside this crate ask of the numbers that they are given. No promise to a caller rests on it.
use Rattle.std.specs.Prelude.{◌≡◌, List, ℕ, ◌+◌, ◌-◌, ◌*◌, ◌≤◌, ◌<◌, length, get_or}
use Rattle.basis.specs.Tests.{falses}
use Rattle.time.specs.Time.{horizon}
use Rattle.time.specs.declared.Specified.{Specified}
use Rattle.plan.specs.Limits.{longest}
use Rattle.basis.specs.Parts.{part}
use Rattle.plan.specs.Plan.{past_node, nodes_of}
use Rattle.plan.specs.declared.Node.{Node}
use Rattle.plan.specs.declared.Activity.{Activity}
use Rattle.times.specs.declared.Instance.{Instance}
use Rattle.times.specs.declared.Progress.{Progress}
use Rattle.times.specs.declared.Schedule.{Schedule}
use Rattle.times.specs.Times.{at, round_of, rounds_of, schedule_of}
use Rattle.times.specs.Limits.{ActivityFits}

-- a node whose predecessors can be looked up
pub record ArrowsFit (x : Node) : Type 0 where
  pub few : x.count ≤ 8
  pub within : (j : ℕ) → j < x.count → get_or x.preds j 0 < 64

-- an activity whose times can be worked out from these availabilities and last completions
pub record Timeable (a : Activity) (free last : List Specified) : Type 0 where
  pub resources : ℕ
  pub events : ℕ
  pub few_resources : resources ≤ 16
  pub few_events : events ≤ 16
  pub activity : ActivityFits resources events a
  pub available : (r : ℕ) → r < resources → at free r ≤ horizon
  pub latest : (e : ℕ) → e < events → at last e ≤ horizon

-- a schedule, in the making, of an activity of so many nodes: no completion lies further past 10^15 than the done nodes
-- together can take
pub record Sound (size : ℕ) (t : Schedule) : Type 0 where
  pub long : length t.done ≡ 64
  pub tally : falses t.done + t.count ≡ 64
  pub small : (n : ℕ) → at t.end n ≤ horizon + longest * t.count
  pub within : (j : ℕ) → j < t.count → get_or t.order j 0 < size

-- a schedule of the activity
pub record Leaving (a : Activity) (t : Schedule) : Type 0 where
  pub resources : ℕ
  pub events : ℕ
  pub few_resources : resources ≤ 16
  pub few_events : events ≤ 16
  pub activity : ActivityFits resources events a
  pub done : t.count ≤ 64
  pub within : (j : ℕ) → j < t.count → get_or t.order j 0 < a.count

-- ---- the rounds

-- in a round, which `from` done nodes began and of which the nodes from n on are left, with `left` rounds to go, this one
-- included
pub record Rounding (a : Activity) (available latest : List Specified) (left from n : ℕ) (u : Schedule) : Type 0 where
  pub start : Schedule
  pub all : schedule_of available latest (nodes_of a) ≡ rounds_of available latest (nodes_of a) left start
  pub here : round_of available latest 0 (nodes_of a) start ≡ round_of available latest n (part past_node a.nodes n (a.count - n)) u
  pub same : start.count ≡ from
  pub fresh : left ≡ 0 → u ≡ start
  pub sound : Sound a.count u

-- ---- the queues

abbrev pub with_pending : Progress → List Instance → Progress
with_pending g q = record {
  available = g.available;
  latest = g.latest;
  lengths = g.lengths;
  pending = q;
  position = g.position;
  state = g.state;
}
