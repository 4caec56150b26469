-- What is stored between transitions lies "inside this paper's and its plan's limits" (number 50): counts, numbers and
-- times of the resources and events that the plan has.
use Rattle.std.specs.Prelude.{List, ℕ, ◌+◌, ◌≤◌, ◌<◌, get_or}
use Rattle.basis.specs.Lists.{Among}
use Rattle.time.specs.Time.{horizon}
use Rattle.plan.specs.Plan.{past_node, predecessors}
use Rattle.plan.specs.Limits.{longest}
use Rattle.plan.specs.declared.Kind.{Kind}
use Rattle.plan.specs.declared.Node.{Node}
use Rattle.plan.specs.declared.Activity.{Activity}
use Rattle.plan.specs.declared.Input.{Input}
use Rattle.times.specs.declared.Told.{Told}
use Rattle.times.specs.declared.Instance.{Instance}
use Rattle.times.specs.declared.Progress.{Progress}
use Rattle.times.specs.Times.{at}
use Rattle.times.specs.Queues.{pending_of, instance_of}
use Rattle.times.specs.Engine.{last_position}

-- an outcome that was reported of an event is one of its outcomes
abbrev pub ToldNames : ℕ → Told → Type 0
ToldNames outcomes Told.Nothing = Unit {0}
ToldNames outcomes (Told.Outcome o) = o < outcomes

-- a pending instance of an event that has so many outcomes
pub record InstanceInLimits (outcomes : ℕ) (x : Instance) : Type 0 where
  pub position : x.position ≤ last_position
  pub node : x.node < 64
  pub end : x.end.0 ≤ horizon
  pub told : ToldNames outcomes x.told

-- where a behaviour stands, of a plan with so many resources, events and states, and with the outcomes of each event;
-- one position past the last is good: the next transition is then the one that is refused
pub record ProgressInLimits (resources events states : ℕ) (outcomes : List ℕ) (g : Progress) : Type 0 where
  pub available : (r : ℕ) → r < resources → at g.available r ≤ horizon
  pub latest : (e : ℕ) → e < events → at g.latest e ≤ horizon
  pub lengths : (e : ℕ) → e < events → pending_of g e ≤ 8
  pub pending : (e i : ℕ) → e < events → i < pending_of g e → InstanceInLimits (get_or outcomes e 0) (instance_of g e i)
  pub position : g.position ≤ last_position + 1
  pub state : g.state < states

-- ---- a transition

-- the numbers in a node's kind
abbrev pub KindFits : ℕ → ℕ → Kind → Type 0
KindFits resources events (Kind.Action a p) = Unit {0}
KindFits resources events (Kind.Claim r) = r < resources
KindFits resources events (Kind.Release r) = r < resources
KindFits resources events (Kind.Event e) = e < events

pub record NodeFits (resources events size : ℕ) (x : Node) : Type 0 where
  pub names : KindFits resources events x.kind
  pub duration : x.duration ≤ longest
  pub few : x.count ≤ 8
  pub arrows : (m : ℕ) → Among m (predecessors x) → m < size

-- an activity of a plan with so many resources and events
pub record ActivityFits (resources events : ℕ) (a : Activity) : Type 0 where
  pub count : a.count ≤ 64
  pub nodes : (n : ℕ) → n < a.count → NodeFits resources events a.count (get_or a.nodes n past_node)

abbrev pub InputFits : ℕ → Input → Type 0
InputFits events Input.Nothing = Unit {0}
InputFits events (Input.Outcome e o) = e < events

-- a transition of a plan within its limits, at a place within them
pub record StepFits (resources : ℕ) (a : Activity) (i : Input) (g : Progress) : Type 0 where
  pub events : ℕ
  pub states : ℕ
  pub outcomes : List ℕ
  pub few_resources : resources ≤ 16
  pub few_events : events ≤ 16
  pub activity : ActivityFits resources events a
  pub input : InputFits events i
  pub progress : ProgressInLimits resources events states outcomes g
