-- What the stored numbers say of a behaviour, and what is known of a transition that an accepted plan takes.
use Rattle.std.specs.Prelude.{◌≡◌, cond, List, [], ◌∷◌, map, ℕ, ◌+◌, ◌≤◌, ◌<◌, length}
use Rattle.time.specs.declared.Specified.{Specified}
use Rattle.plan.specs.declared.Kind.{Kind}
use Rattle.plan.specs.declared.Node.{Node}
use Rattle.plan.specs.declared.Input.{Input}
use Rattle.plan.specs.Plan.{is_event, events_in}
use Rattle.activity.specs.Rules.{node, Is}
use Rattle.times_combined.proofs.Laws.Accepted.{Good}
use Rattle.times_combined.proofs.Laws.Engine.{State}
use Rattle.times.specs.declared.Instance.{Instance}
use Rattle.times.specs.declared.Progress.{Progress}
use Rattle.times.specs.declared.Schedule.{Schedule}
use Rattle.times.specs.Times.{at, order_of}
use Rattle.times.specs.Queues.{pending_of, queue_of, processed_of, emission}

abbrev pub completion : Instance → ℕ
completion x = x.end.0

-- the state of the behaviour
abbrev pub seen : Progress → State
seen g = record { free = at g.available; last = at g.latest; queue = λ e. map completion (queue_of g e) }

-- those of some nodes that are of event e
unfoldable pub of_event : List Node → ℕ → List ℕ → List ℕ
of_event a e [] = []
of_event a e (n ∷ ns) = cond (is_event e (node a n).kind) (n ∷ of_event a e ns) (of_event a e ns)

-- the nodes of e in the order in which they were worked out
abbrev pub emitted : List Node → Schedule → ℕ → List ℕ
emitted a t e = of_event a e (order_of t)

-- the instances that some nodes of the transition at position p are
abbrev pub instances : List Specified → ℕ → List ℕ → List Instance
instances end p ns = map (λ n. emission p n (at end n)) ns

-- the arrays have the lengths of their types
pub record Whole (g : Progress) : Type 0 where
  pub available : length g.available ≡ 16
  pub latest : length g.latest ≡ 16
  pub lengths : length g.lengths ≡ 16
  pub pending : length g.pending ≡ 128

-- "an event is processed only while more of it have been emitted than processed"
abbrev pub Pending : Input → Progress → Type 0
Pending Input.Nothing g = Unit {0}
Pending (Input.Outcome e o) g = 0 < pending_of g e

-- a transition of an accepted plan: it processes `i` and emits a
pub record Ready (R : ℕ) (belongs : ℕ → ℕ) (a : List Node) (i : Input) (g : Progress) : Type 0 where
  pub resources : R ≤ 16
  pub size : length a ≤ 64
  pub good : Good R belongs a
  pub events : (n e : ℕ) → Is a n (Kind.Event e) → e < 16
  pub whole : Whole g
  pub processes : Pending i g
  -- "at most 8 of one event are pending at a state": before it, and after it has processed and emitted
  pub few : (e : ℕ) → pending_of g e ≤ 8
  pub room : (e : ℕ) → pending_of (processed_of i g) e + events_in e a ≤ 8
