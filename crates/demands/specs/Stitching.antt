-- Request (i), "Same outcomes, same stitching": "Take two runs of one plan with equal availabilities and slack, each with its own
-- Ψ, both ending in done, with equal processed outcomes in order. They started the same nodes, and each node's start reading
-- less Ψ differs between them by at most the slack. Completion reports may differ in any way."
use Rattle.std.specs.Prelude.{◌≡◌, List, [], ◌∷◌, ◌⊎◌, ◌↔◌, ℕ, ◌+◌, ◌≤◌}
use Rattle.time.specs.declared.Clock.{Clock}
use Rattle.plan.specs.Plan.{move}
use Rattle.plan.specs.declared.Input.{Input}
use Rattle.plan.specs.declared.Plan.{Plan}
use Rattle.judge.specs.Judge.{judge_of}
use Rattle.run.specs.declared.Call.{Call}
use Rattle.run.specs.declared.Reply.{Reply}
use Rattle.run.specs.declared.Opening.{Opening}
use Rattle.run.specs.Opening.{open_of}
use Rattle.demands_log.specs.Log.{Id, Said, Log, reading, Starts, Started, Finishes}
use Rattle.demands_theory.specs.TheWord.{TheWord}
use Rattle.demands.specs.Accepted.{Bytes}
use Rattle.demands.specs.Demand3.{driven_by}

-- ---- "processed outcomes in order"

-- the outcome that an input processes, and those before it
abbrev pub processed_by : Input → List ℕ → List ℕ
processed_by Input.Nothing os = os
processed_by (Input.Outcome e o) os = o ∷ os

-- those of the transitions of a word, the latest first; the state says of which event each is
abbrev pub processed_in : Plan → List ℕ → List ℕ
processed_in p [] = []
processed_in p (i ∷ is) = processed_by (move p.automaton i).input (processed_in p is)

-- those of a log: of the word that it has
pub record Processed (p : Plan) (log : Log) (os : List ℕ) : Type 0 where
  pub word : List ℕ
  pub the_word : TheWord p log word
  pub outcomes : processed_in p word ≡ os

-- ---- what a log says

-- "ending in done": its latest answer
abbrev pub EndsInDone : Log → Type 0
EndsInDone [] = ⊥
EndsInDone (y ∷ older) = Finishes y.reply

-- P holds of one of its calls
abbrev pub Sometime : (Said → Type 0) → Log → Type 0
Sometime P [] = ⊥
Sometime P (y ∷ older) = P y ⊎ Sometime P older

-- "A node is started by the ask answered start with it, at that ask's reading."
abbrev pub StartedAt : Log → Id → ℕ → Type 0
StartedAt log x t = Sometime (λ y. Starts y.reply x × (reading y.call ≡ t)) log

-- it is started by an answer that names this activity
abbrev pub NamedWith : Log → Id → ℕ → Type 0
NamedWith log x a = Sometime (λ y. y.reply ≡ Reply.Start x.position a x.node) log

-- ---- the claim

-- of a log `one` of a run with Ψ and a log `other` of a run with Χ
pub record SameStitching (psi chi slack : ℕ) (one other : Log) : Type 0 where
  -- "They started the same nodes",
  pub nodes : (x : Id) → Started one x ↔ Started other x
  -- named with the same activities,
  pub activities : (x : Id) (a b : ℕ) → NamedWith one x a → NamedWith other x b → a ≡ b
  -- "and each node's start reading less Ψ differs between them by at most the slack": t - Ψ ≤ u - Χ + slack, and the other way
  pub times : (x : Id) (t u : ℕ) → StartedAt one x t → StartedAt other x u → (t + chi ≤ u + psi + slack) × (u + psi ≤ t + chi + slack)
  -- where neither reading is below its Ψ
  pub from : (x : Id) (t u : ℕ) → StartedAt one x t → StartedAt other x u → (psi ≤ t) × (chi ≤ u)

-- the log of a list of calls after an opening
abbrev pub log_after : List ℕ → Clock → ℕ → List ℕ → List Call → Log
log_after bytes psi slack ts cs = (driven_by bytes psi slack ts cs).log

-- for every two openings of the same bytes that are accepted, and every two lists of calls; nothing is asked of the reports
abbrev pub StatementSame : Type 0
StatementSame =
    (bytes : List ℕ) → Bytes bytes → (psi chi : Clock) (slack : ℕ) (ts : List ℕ) (cs ds : List Call)
    → (open_of bytes psi slack ts).opening ≡ Opening.Opened → (open_of bytes chi slack ts).opening ≡ Opening.Opened
    → EndsInDone (log_after bytes psi slack ts cs) → EndsInDone (log_after bytes chi slack ts ds)
    → (is us : List ℕ) → TheWord (judge_of bytes).plan (log_after bytes psi slack ts cs) is → TheWord (judge_of bytes).plan (log_after bytes chi slack ts ds) us
    → processed_in (judge_of bytes).plan is ≡ processed_in (judge_of bytes).plan us
    → SameStitching psi.0 chi.0 slack (log_after bytes psi slack ts cs) (log_after bytes chi slack ts ds)

-- the same by the logs' processed outcomes
abbrev pub StatementSameOutcomes : Type 0
StatementSameOutcomes =
    (bytes : List ℕ) → Bytes bytes → (psi chi : Clock) (slack : ℕ) (ts : List ℕ) (cs ds : List Call)
    → (open_of bytes psi slack ts).opening ≡ Opening.Opened → (open_of bytes chi slack ts).opening ≡ Opening.Opened
    → EndsInDone (log_after bytes psi slack ts cs) → EndsInDone (log_after bytes chi slack ts ds)
    → (os : List ℕ) → Processed (judge_of bytes).plan (log_after bytes psi slack ts cs) os → Processed (judge_of bytes).plan (log_after bytes chi slack ts ds) os
    → SameStitching psi.0 chi.0 slack (log_after bytes psi slack ts cs) (log_after bytes chi slack ts ds)

-- each log has such outcomes, and no others
abbrev pub StatementProcessed : Type 0
StatementProcessed =
    (bytes : List ℕ) → Bytes bytes → (psi : Clock) (slack : ℕ) (ts : List ℕ) → (open_of bytes psi slack ts).opening ≡ Opening.Opened → (cs : List Call)
    → (os : List ℕ) × Processed (judge_of bytes).plan (log_after bytes psi slack ts cs) os × ((us : List ℕ) → Processed (judge_of bytes).plan (log_after bytes psi slack ts cs) us → us ≡ os)

-- a started node has a start reading
abbrev pub StatementStartReading : Type 0
StatementStartReading = (log : Log) (x : Id) → Started log x ↔ ((t : ℕ) × StartedAt log x t)
