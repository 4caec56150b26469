-- Two plans that are the same but for their spare room: the slots past a count, which no definition looks at.
use Rattle.std.specs.Prelude.{◌≡◌, ℕ, ◌<◌}
use Rattle.plan.specs.Plan.{predecessors, size_of, resource_of, outcomes_of, move}
use Rattle.plan.specs.Limits.{node_at}
use Rattle.plan.specs.declared.Node.{Node}
use Rattle.plan.specs.declared.Plan.{Plan}

pub record SameNode (m n : Node) : Type 0 where
  pub kind : m.kind ≡ n.kind
  pub duration : m.duration ≡ n.duration
  pub arrows : predecessors m ≡ predecessors n

pub record SamePlan (p q : Plan) : Type 0 where
  pub resources : p.resources ≡ q.resources
  pub peripherals : p.peripherals ≡ q.peripherals
  pub belongs : (x : ℕ) → x < p.peripherals → resource_of p x ≡ resource_of q x
  pub events : p.events ≡ q.events
  pub outcomes : (e : ℕ) → e < p.events → outcomes_of p e ≡ outcomes_of q e
  pub activities : p.activities ≡ q.activities
  pub sizes : (a : ℕ) → a < p.activities → size_of p a ≡ size_of q a
  pub nodes : (a n : ℕ) → a < p.activities → n < size_of p a → SameNode (node_at p a n) (node_at q a n)
  pub states : p.automaton.states ≡ q.automaton.states
  pub initial : p.automaton.initial ≡ q.automaton.initial
  pub finals : p.automaton.finals ≡ q.automaton.finals
  pub transitions : p.automaton.count ≡ q.automaton.count
  pub moves : (i : ℕ) → i < p.automaton.count → move p.automaton i ≡ move q.automaton i
