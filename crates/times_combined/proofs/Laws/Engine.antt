-- The engine's way to the specified times: a state, and one transition at a time.
use Rattle.std.specs.Prelude.{◌≡◌, cond, List, [], ◌∷◌, ◌++◌, map, ◌⊎◌, ◌↔◌, ℕ, zero, suc, ◌+◌, ◌<◌, max, length, eqb}
use Rattle.basis.specs.Lists.{Among, Distinct}
use Rattle.plan.specs.declared.Kind.{Kind}
use Rattle.plan.specs.declared.Node.{Node}
use Rattle.plan.specs.declared.Input.{Input}
use Rattle.plan.specs.Plan.{predecessors}
use Rattle.activity.specs.Rules.{node, Is, Before, Unnamed}
use Rattle.times_combined.specs.Word.{Step, Word, τ, ◌▷◌, size}
use Rattle.times_combined.specs.Combined.{Ident, named, claimed, freed, NotClaim}

pub record State : Type 0 where
  -- availability of each resource
  pub free : ℕ → ℕ
  -- last completion of each event, 0 before the first
  pub last : ℕ → ℕ
  -- completions of the emitted, unprocessed instances of each event, oldest first
  pub queue : ℕ → List ℕ

-- ---- the times of one activity

-- the largest completion of some nodes; 0 if there are none
abbrev pub latest : (ℕ → ℕ) → List ℕ → ℕ
latest C [] = 0
latest C (m ∷ ms) = max (C m) (latest C ms)

-- "Each earlier node of an event precedes each later node of it": an event waits for its event's last completion
abbrev pub held : (ℕ → ℕ) → Kind → ℕ
held last (Kind.Action a p) = 0
held last (Kind.Claim r) = 0
held last (Kind.Release r) = 0
held last (Kind.Event e) = last e

-- starts S and completions C of its nodes, by number
pub record Timed (a : List Node) (free last : ℕ → ℕ) (S C : ℕ → ℕ) : Type 0 where
  pub claims : (n r : ℕ) → Is a n (Kind.Claim r) → S n ≡ free r
  pub others : (n : ℕ) → n < length a → NotClaim (node a n).kind → S n ≡ max (latest C (predecessors (node a n))) (held last (node a n).kind)
  pub ends : (n : ℕ) → n < length a → C n ≡ S n + (node a n).duration

-- ns are the nodes of e, in the order of "before"
pub record Emits (a : List Node) (e : ℕ) (ns : List ℕ) : Type 0 where
  pub all : (n : ℕ) → Among n ns → Is a n (Kind.Event e)
  pub only : (n : ℕ) → Is a n (Kind.Event e) → Among n ns
  pub distinct : Distinct ns
  pub ordered : (ms : List ℕ) (n : ℕ) (os : List ℕ) → ns ≡ ms ++ (n ∷ os) → (m : ℕ) → Among m ns → (Before a m n ↔ Among m ms)

-- ---- one transition

-- c is the completion of the oldest instance of what is processed; 0 if nothing is
abbrev pub Floor : Input → State → ℕ → Type 0
Floor Input.Nothing s c = c ≡ 0
Floor (Input.Outcome e u) s c = (rest : List ℕ) × (s.queue e ≡ c ∷ rest)

-- "precede every successor of every claim of the next activity": no resource is available before that completion
abbrev pub raised : State → ℕ → ℕ → ℕ
raised s c r = max (s.free r) c

-- resource r is available at v after the activity: when its release completes, or if it is unnamed at once
abbrev pub Available : List Node → (ℕ → ℕ) → State → ℕ → ℕ → ℕ → Type 0
Available a C s c r v = ((n : ℕ) × Is a n (Kind.Release r) × (v ≡ C n)) ⊎ (Unnamed a r × (v ≡ raised s c r))

abbrev pub behind : List ℕ → List ℕ
behind [] = []
behind (x ∷ xs) = xs

-- the queue of f, less the instance that is processed
abbrev pub taken : Input → State → ℕ → List ℕ
taken Input.Nothing s f = s.queue f
taken (Input.Outcome e u) s f = cond (eqb e f) (behind (s.queue f)) (s.queue f)

-- From the state s to the state s', with the times S and C of the activity's nodes and, for each event, the order in
-- which it emits the nodes of the event. "A transition processes first, then emits."
pub record Steps (R : ℕ) (x : Step) (s : State) (c : ℕ) (S C : ℕ → ℕ) (emitted : ℕ → List ℕ) (s' : State) : Type 0 where
  pub floor : Floor x.input s c
  pub timed : Timed x.output (raised s c) s.last S C
  pub free : (r : ℕ) → r < R → Available x.output C s c r (s'.free r)
  pub emits : (e : ℕ) → Emits x.output e (emitted e)
  pub last : (e : ℕ) → s'.last e ≡ max (s.last e) (latest C (emitted e))
  pub queue : (e : ℕ) → s'.queue e ≡ taken x.input s e ++ map C (emitted e)

-- ---- a word

-- what the engine computes, by position; the state is the one before the position
pub record Trace : Type 0 where
  pub state : ℕ → State
  pub floor : ℕ → ℕ
  pub start : ℕ → ℕ → ℕ
  pub end : ℕ → ℕ → ℕ
  pub emits : ℕ → ℕ → List ℕ

abbrev pub Stepped : ℕ → Step → Trace → ℕ → Type 0
Stepped R x t p = Steps R x (t.state p) (t.floor p) (t.start p) (t.end p) (t.emits p) (t.state (suc p))

-- from the opening's availabilities over the transitions of a word
pub data Run (R : ℕ) (available : ℕ → ℕ) (t : Trace) : Word → Type 0 where
  opens : ((r : ℕ) → (t.state 0).free r ≡ available r) → ((e : ℕ) → (t.state 0).last e ≡ 0) → ((e : ℕ) → (t.state 0).queue e ≡ []) → Run R available t τ
  goes : {w : Word} {x : Step} → Run R available t w → Stepped R x t (size w) → Run R available t (w ▷ x)

-- ---- the engine's times by identity

-- of an added claim or release: when its resource is available at a place
abbrev pub raised_at : Trace → ℕ → ℕ → ℕ
raised_at t zero r = (t.state 0).free r
raised_at t (suc p) r = raised (t.state p) (t.floor p) r

abbrev pub start_at : Trace → Ident → ℕ
start_at t (named zero n) = 0
start_at t (named (suc p) n) = t.start p n
start_at t (claimed q r) = raised_at t q r
start_at t (freed q r) = raised_at t q r

abbrev pub end_at : Trace → Ident → ℕ
end_at t (named zero n) = 0
end_at t (named (suc p) n) = t.end p n
end_at t (claimed q r) = raised_at t q r
end_at t (freed q r) = raised_at t q r
