-- The limits that "The plan file" sets on counts, numbers and durations, and the rules that are none.
use Rattle.std.specs.Prelude.{◌≡◌, true, ℕ, ◌*◌, ◌+◌, ◌≤◌, ◌<◌, get_or}
use Rattle.basis.specs.Lists.{Among}
use Rattle.plan.specs.declared.Kind.{Kind}
use Rattle.plan.specs.declared.Node.{Node}
use Rattle.plan.specs.declared.Input.{Input}
use Rattle.plan.specs.declared.Output.{Output}
use Rattle.plan.specs.declared.Transition.{Transition}
use Rattle.plan.specs.declared.Plan.{Plan}
use Rattle.plan.specs.Plan.{past_node, predecessors, size_of, resource_of, outcomes_of, move, is_final}

-- "four bytes, 1 to 60,000,000"
abbrev pub longest : ℕ
longest = 60_000_000

-- the numbers in a node's kind name something; any action number is good
abbrev pub KindNames : Plan → Kind → Type 0
KindNames p (Kind.Action a x) = x < p.peripherals
KindNames p (Kind.Claim r) = r < p.resources
KindNames p (Kind.Release r) = r < p.resources
KindNames p (Kind.Event e) = e < p.events

-- a node of an activity of `size` nodes
pub record NodeInLimits (p : Plan) (size : ℕ) (n : Node) : Type 0 where
  pub names : KindNames p n.kind
  pub duration : n.duration ≤ longest
  pub few : n.count ≤ 8
  pub arrows : (m : ℕ) → Among m (predecessors n) → m < size

abbrev pub InputNames : Plan → Input → Type 0
InputNames p Input.Nothing = Unit {0}
InputNames p (Input.Outcome e o) = (e < p.events) × (o < outcomes_of p e)

abbrev pub OutputNames : Plan → Output → Type 0
OutputNames p Output.Empty = Unit {0}
OutputNames p (Output.Activity a) = a < p.activities

pub record MoveInLimits (p : Plan) (t : Transition) : Type 0 where
  pub from : t.from < p.automaton.states
  pub to : t.to < p.automaton.states
  pub input : InputNames p t.input
  pub output : OutputNames p t.output

-- node n of activity a
abbrev pub node_at : Plan → ℕ → ℕ → Node
node_at p a n = get_or p.nodes (64 * a + n) past_node

-- every stored count, number and duration lies within the limits
pub record InLimits (p : Plan) : Type 0 where
  pub resources : p.resources ≤ 16
  pub peripherals : p.peripherals ≤ 64
  pub belongs : (x : ℕ) → x < p.peripherals → resource_of p x < p.resources
  pub events : p.events ≤ 16
  pub outcomes : (e : ℕ) → e < p.events → (1 ≤ outcomes_of p e) × (outcomes_of p e ≤ 8)
  pub activities : p.activities ≤ 32
  pub sizes : (a : ℕ) → a < p.activities → (1 ≤ size_of p a) × (size_of p a ≤ 64)
  pub nodes : (a n : ℕ) → a < p.activities → n < size_of p a → NodeInLimits p (size_of p a) (node_at p a n)
  pub states : (1 ≤ p.automaton.states) × (p.automaton.states ≤ 64)
  pub initial : p.automaton.initial < p.automaton.states
  pub finals : (s : ℕ) → is_final p.automaton s ≡ true → s < p.automaton.states
  pub transitions : p.automaton.count ≤ 256
  pub moves : (i : ℕ) → i < p.automaton.count → MoveInLimits p (move p.automaton i)

-- "Claims and releases have no bit 4. No bit 4 means duration 0."
abbrev pub Brief : Kind → ℕ → Type 0
Brief (Kind.Action a x) d = Unit {0}
Brief (Kind.Claim r) d = d ≡ 0
Brief (Kind.Release r) d = d ≡ 0
Brief (Kind.Event e) d = Unit {0}

-- "action number": one byte
abbrev pub ByteAction : Kind → Type 0
ByteAction (Kind.Action a x) = a < 256
ByteAction (Kind.Claim r) = Unit {0}
ByteAction (Kind.Release r) = Unit {0}
ByteAction (Kind.Event e) = Unit {0}

pub record NodeWritten (n : Node) : Type 0 where
  pub rising : (i : ℕ) → i + 1 < n.count → get_or n.preds i 0 < get_or n.preds (i + 1) 0
  pub brief : Brief n.kind n.duration
  pub action : ByteAction n.kind

-- Inner: what the description of the file asks of a plan (plan_file/HoldsPlan), apart from the order of its fields.
pub record FileRules (p : Plan) : Type 0 where
  pub limits : InLimits p
  pub nodes : (a n : ℕ) → a < p.activities → n < size_of p a → NodeWritten (node_at p a n)
