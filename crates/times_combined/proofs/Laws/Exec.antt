-- The engine's step as a function: what `Steps` asks, computed.
use Rattle.std.specs.Prelude.{Bool, false, cond, List, [], ◌∷◌, ◌++◌, map, ℕ, zero, suc, ◌+◌, max, length, eqb, leb, ltb}
use Rattle.plan.specs.declared.Kind.{Kind}
use Rattle.plan.specs.declared.Node.{Node}
use Rattle.plan.specs.declared.Input.{Input}
use Rattle.plan.specs.Plan.{predecessors, is_event}
use Rattle.activity.specs.Rules.{node}
use Rattle.times_combined.specs.Word.{Step, Word, τ, ◌▷◌, size}
use Rattle.times_combined.specs.Combined.{Ident}
use Rattle.times_combined.proofs.Laws.Engine.{State, latest, raised, taken, Trace, start_at, end_at}

-- the length of a longest chain to n, or k if that is less
unfoldable pub depth : List Node → ℕ → ℕ → ℕ
depth a zero n = 0
depth a (suc k) n = latest (λ m. suc (depth a k m)) (predecessors (node a n))

abbrev pub rank_of : List Node → ℕ → ℕ
rank_of a n = depth a (length a) n

-- ---- the times of one activity

-- a claim starts when its resource is free; another node after its predecessors, an event also after its last one
unfoldable pub begin_by : (ℕ → ℕ) → (ℕ → ℕ) → ℕ → Kind → ℕ
begin_by free last m (Kind.Action a p) = max m 0
begin_by free last m (Kind.Claim r) = free r
begin_by free last m (Kind.Release r) = max m 0
begin_by free last m (Kind.Event e) = max m (last e)

abbrev pub begin : List Node → (ℕ → ℕ) → (ℕ → ℕ) → (ℕ → ℕ) → ℕ → ℕ
begin a free last C n = begin_by free last (latest C (predecessors (node a n))) (node a n).kind

unfoldable pub end_by : List Node → (ℕ → ℕ) → (ℕ → ℕ) → ℕ → ℕ → ℕ
end_by a free last zero n = 0
end_by a free last (suc k) n = begin a free last (end_by a free last k) n + (node a n).duration

abbrev pub end_of : List Node → (ℕ → ℕ) → (ℕ → ℕ) → ℕ → ℕ
end_of a free last n = end_by a free last (suc (rank_of a n)) n

abbrev pub start_of : List Node → (ℕ → ℕ) → (ℕ → ℕ) → ℕ → ℕ
start_of a free last n = begin a free last (end_of a free last) n

-- ---- the nodes of an event, in order

unfoldable pub insert : (ℕ → ℕ) → ℕ → List ℕ → List ℕ
insert rank n [] = n ∷ []
insert rank n (k ∷ ns) = cond (ltb (rank n) (rank k)) (n ∷ k ∷ ns) (k ∷ insert rank n ns)

unfoldable pub emits_below : List Node → ℕ → ℕ → List ℕ
emits_below a e zero = []
emits_below a e (suc k) = cond (is_event e (node a k).kind) (insert (rank_of a) k (emits_below a e k)) (emits_below a e k)

abbrev pub emits_of : List Node → ℕ → List ℕ
emits_of a e = emits_below a e (length a)

-- ---- the release of a resource

abbrev pub is_release : Kind → ℕ → Bool
is_release (Kind.Action a p) r = false
is_release (Kind.Claim s) r = false
is_release (Kind.Release s) r = eqb s r
is_release (Kind.Event f) r = false

-- its completion, or c where there is none below k
unfoldable pub released_below : List Node → (ℕ → ℕ) → ℕ → ℕ → ℕ → ℕ
released_below a C c r zero = c
released_below a C c r (suc k) = cond (is_release (node a k).kind r) (C k) (released_below a C c r k)

-- ---- one step

abbrev pub oldest_of : List ℕ → ℕ
oldest_of [] = 0
oldest_of (c ∷ cs) = c

abbrev pub floor_of : Input → State → ℕ
floor_of Input.Nothing s = 0
floor_of (Input.Outcome e u) s = oldest_of (s.queue e)

abbrev pub raised_of : Step → State → ℕ → ℕ
raised_of x s = raised s (floor_of x.input s)

abbrev pub starts_of : Step → State → ℕ → ℕ
starts_of x s = start_of x.output (raised_of x s) s.last

abbrev pub ends_of : Step → State → ℕ → ℕ
ends_of x s = end_of x.output (raised_of x s) s.last

abbrev pub next_of : Step → State → State
next_of x s = record {
  free = λ r. released_below x.output (ends_of x s) (raised_of x s r) r (length x.output);
  last = λ e. max (s.last e) (latest (ends_of x s) (emits_of x.output e));
  queue = λ e. taken x.input s e ++ map (ends_of x s) (emits_of x.output e);
}

-- the state after a word
abbrev pub state_of : (ℕ → ℕ) → Word → State
state_of available τ = record { free = available; last = λ e. 0; queue = λ e. [] }
state_of available (w ▷ x) = next_of x (state_of available w)

-- ---- the times of a word's nodes

-- a trace, with what is computed at position p and the state after it
abbrev pub put : Trace → ℕ → ℕ → (ℕ → ℕ) → (ℕ → ℕ) → (ℕ → List ℕ) → State → Trace
put t p c S C em s = record {
  state = λ i. cond (leb i p) (t.state i) s;
  floor = λ i. cond (eqb i p) c (t.floor i);
  start = λ i. cond (eqb i p) S (t.start i);
  end = λ i. cond (eqb i p) C (t.end i);
  emits = λ i. cond (eqb i p) em (t.emits i);
}

-- what is computed over a word
unfoldable pub trace_of : (ℕ → ℕ) → Word → Trace
trace_of available τ = record { state = λ i. state_of available τ; floor = λ i. 0; start = λ i n. 0; end = λ i n. 0; emits = λ i e. [] }
trace_of available (w ▷ x) = put (trace_of available w) (size w) (floor_of x.input (state_of available w)) (starts_of x (state_of available w)) (ends_of x (state_of available w)) (emits_of x.output) (next_of x (state_of available w))

-- start and completion of a node by its identity
abbrev pub start_in : (ℕ → ℕ) → Word → Ident → ℕ
start_in available w = start_at (trace_of available w)

abbrev pub end_in : (ℕ → ℕ) → Word → Ident → ℕ
end_in available w = end_at (trace_of available w)
