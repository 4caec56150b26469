-- "Needle motors first": which of two nodes with one specified start is served first, at an ask and by stop 41. "Ties in specified start
-- now go by peripheral number, events after all actions, then position, then node."
use Rattle.std.specs.Prelude.{◌≡◌, true, ◌⊎◌, ◌↔◌, ℕ, ◌<◌, None}
use Rattle.time.specs.declared.Clock.{Clock}
use Rattle.plan.specs.declared.Kind.{Kind}
use Rattle.run_window.specs.Window.{is_held, starts_before}
use Rattle.run_checks.specs.declared.Stop.{Stop}
use Rattle.run.specs.declared.Run.{Run}
use Rattle.run.specs.declared.Call.{Call}
use Rattle.run.specs.declared.Reply.{Reply}
use Rattle.run.specs.Calls.{call_of, reading_of, kind_of}
use Rattle.demands.specs.Conditions.{entry_at, DueAt, LateAt, IsAction}
use Rattle.demands.specs.InLimits.{RunInLimits}

-- what decides when a node is served
pub record Turn : Type 0 where
  -- its specified start
  pub start : ℕ
  pub kind : Kind
  pub position : ℕ
  pub node : ℕ

-- the kinds put neither first: two actions of one peripheral, or no action at all
pub data Level : Kind → Kind → Type 0 where
  peripheral : {a b p : ℕ} → Level (Kind.Action a p) (Kind.Action b p)
  others : {h k : Kind} → (IsAction h → ⊥) → (IsAction k → ⊥) → Level h k

-- the first is served before the second
pub data Served (a b : Turn) : Type 0 where
  earlier : a.start < b.start → Served a b
  peripheral : {m n p q : ℕ} → a.start ≡ b.start → a.kind ≡ Kind.Action m p → b.kind ≡ Kind.Action n q → p < q → Served a b
  action : a.start ≡ b.start → IsAction a.kind → (IsAction b.kind → ⊥) → Served a b
  position : a.start ≡ b.start → Level a.kind b.kind → a.position < b.position → Served a b
  node : a.start ≡ b.start → Level a.kind b.kind → a.position ≡ b.position → a.node < b.node → Served a b

-- nothing decides: two entries of one node, which only a made-up run holds
pub record Alike (a b : Turn) : Type 0 where
  pub start : a.start ≡ b.start
  pub kind : Level a.kind b.kind
  pub position : a.position ≡ b.position
  pub node : a.node ≡ b.node

-- ---- the places of a run

abbrev pub turn_at : Run → ℕ → Turn
turn_at run i = record { start = (entry_at run i).start.0; kind = kind_of run (entry_at run i); position = (entry_at run i).position; node = (entry_at run i).node }

abbrev pub ServedFirst : Run → ℕ → ℕ → Type 0
ServedFirst run i j = Served (turn_at run i) (turn_at run j)

-- place i has P, and is served before every other that has it; of those alike the lowest place
pub record FirstServed (run : Run) (P : ℕ → Type 0) (i : ℕ) : Type 0 where
  pub has : P i
  pub first : (j : ℕ) → P j → (j ≡ i → ⊥) → ServedFirst run i j ⊎ (Alike (turn_at run i) (turn_at run j) × (i < j))

-- the order by which the conditions of a reply go (Conditions) is this one
abbrev pub StatementOrder : Type 0
StatementOrder = (run : Run) → RunInLimits run → (i j : ℕ) → is_held (entry_at run i).phase ≡ true → is_held (entry_at run j).phase ≡ true
    → (starts_before run.plan.nodes (entry_at run i) (entry_at run j) ≡ true) ↔ ServedFirst run i j

-- an ask starts the node that is served first of those that are due
abbrev pub StatementServed : Type 0
StatementServed = (run : Run) (t : Clock) (p a n : ℕ) → (call_of run (Call.Ask t)).reply ≡ Reply.Start p a n
    → (i : ℕ) × ((entry_at run i).position ≡ p) × ((entry_at run i).activity ≡ a) × ((entry_at run i).node ≡ n) × FirstServed run (DueAt run t) i

-- stop 41, where the run keeps no stop yet, names the node that is served first of those that are late
abbrev pub StatementServedLate : Type 0
StatementServedLate = (run : Run) (c : Call) (p n : ℕ) → run.halt ≡ None → (call_of run c).reply ≡ Reply.Stopped (Stop.Late p n)
    → (i : ℕ) × ((entry_at run i).position ≡ p) × ((entry_at run i).node ≡ n) × FirstServed run (LateAt run (reading_of c)) i
