-- Request (d), "Markers with one outcome": "only a state with more than one way out is a waiting state. A path runs on through a
-- one-outcome event, whose dependency on the next activity is unchanged. Its report closes the node and is not queued."
use Rattle.std.specs.Prelude.{◌≡◌, List, ◌↔◌, ℕ, ◌<◌, set}
use Rattle.time.specs.declared.Clock.{Clock}
use Rattle.plan.specs.Plan.{outcomes_of}
use Rattle.plan.specs.declared.Automaton.{Automaton}
use Rattle.plan.specs.declared.Kind.{Kind}
use Rattle.plan.specs.declared.Plan.{Plan}
use Rattle.automaton.specs.Next.{next_of}
use Rattle.automaton.specs.Rules.{Leaves, Processes}
use Rattle.automaton.specs.declared.Next.{Next}
use Rattle.judge.specs.Judge.{accepted, judge_of}
use Rattle.run_window.specs.Window.{vacant}
use Rattle.run.specs.Calls.{answer, call_of, kind_of}
use Rattle.run.specs.declared.Call.{Call}
use Rattle.run.specs.declared.Reply.{Reply}
use Rattle.run.specs.declared.Run.{Run}
use Rattle.demands.specs.Accepted.{Bytes}
use Rattle.demands.specs.Conditions.{entry_at, Reports}

-- ---- ways out

-- transition t is the only one that leaves state s
abbrev pub Alone : Automaton → ℕ → ℕ → Type 0
Alone a s t = (j : ℕ) → Leaves a s j → j ≡ t

-- more than one leaves it
pub record Several (a : Automaton) (s : ℕ) : Type 0 where
  pub one : ℕ
  pub other : ℕ
  pub leaves : Leaves a s one
  pub leaves_too : Leaves a s other
  pub differ : one ≡ other → ⊥

-- a transition of state s processes event e
abbrev pub ProcessesIn : Automaton → ℕ → ℕ → Type 0
ProcessesIn a s e = (o : ℕ) × Processes a s e o

-- ---- "only a state with more than one way out is a waiting state"

-- of an accepted plan: state s waits for e exactly if it processes e and e has more than one outcome, and exactly if it processes e
-- and has more than one way out; else it goes on by its only way out, exactly if it has one
pub record ByWaysOut (p : Plan) (s : ℕ) : Type 0 where
  pub by_outcomes : (e : ℕ) → (next_of p.automaton s ≡ Next.Waits e) ↔ (ProcessesIn p.automaton s e × (1 < outcomes_of p e))
  pub by_ways : (e : ℕ) → (next_of p.automaton s ≡ Next.Waits e) ↔ (ProcessesIn p.automaton s e × Several p.automaton s)
  pub at_all : ((e : ℕ) × (next_of p.automaton s ≡ Next.Waits e)) ↔ Several p.automaton s
  pub goes_on : (t : ℕ) → (next_of p.automaton s ≡ Next.Goes t) ↔ (Leaves p.automaton s t × Alone p.automaton s t)

abbrev pub StatementWaiting : Type 0
StatementWaiting = (bytes : List ℕ) (p : Plan) → Bytes bytes → judge_of bytes ≡ accepted p → (s : ℕ) → s < p.automaton.states → ByWaysOut p s

-- ---- "Its report closes the node and is not queued."

-- the run with place i free and t as its last reading
abbrev pub closed_at : Run → Clock → ℕ → Run
closed_at run t i =
    record { plan = run.plan; psi = run.psi; slack = run.slack; progress = run.progress; window = set run.window i vacant; last = t; halt = run.halt }

-- in every run, a made-up one too: a timely outcome 0 of a started event with one outcome is taken, and nothing else changes
abbrev pub StatementMarkerTaken : Type 0
StatementMarkerTaken =
    (run : Run) (t : Clock) (p n i e : ℕ) → Reports run (Call.Outcome t p n 0) i → kind_of run (entry_at run i) ≡ Kind.Event e → outcomes_of run.plan e ≡ 1
    → call_of run (Call.Outcome t p n 0) ≡ answer Reply.Taken (closed_at run t i)
