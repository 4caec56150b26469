-- "What the automaton must satisfy", in the words and the order of document 01, and what each of the numbers 21 to 26 means.
use Rattle.std.specs.Prelude.{◌≡◌, true, ℕ, ◌+◌, ◌-◌, ◌≤◌, ◌<◌, Ok}
use Rattle.plan.specs.declared.Input.{Input}
use Rattle.plan.specs.declared.Output.{Output}
use Rattle.plan.specs.declared.Automaton.{Automaton}
use Rattle.plan.specs.declared.Plan.{Plan}
use Rattle.plan.specs.declared.Fault.{Fault}
use Rattle.plan.specs.Verdict.{Verdict, faulty}
use Rattle.plan.specs.Plan.{move, is_final, outcomes_of, emitted_by, events_in, once}

-- ---- states and transitions

-- transition i leaves state s
pub record Leaves (a : Automaton) (s i : ℕ) : Type 0 where
  pub low : i < a.count
  pub from : (move a i).from ≡ s

-- a transition of state s processes event e with outcome o
pub record Processes (a : Automaton) (s e o : ℕ) : Type 0 where
  pub index : ℕ
  pub leaves : Leaves a s index
  pub input : (move a index).input ≡ Input.Outcome e o

-- "Final states have no way out."
abbrev pub NoWayOut : Automaton → ℕ → Type 0
NoWayOut a s = is_final a s ≡ true → (i : ℕ) → Leaves a s i → ⊥

-- two inputs process the same event with different outcomes
pub record Branch (m n : Input) : Type 0 where
  pub event : ℕ
  pub one : ℕ
  pub other : ℕ
  pub first : m ≡ Input.Outcome event one
  pub second : n ≡ Input.Outcome event other
  pub differ : one ≡ other → ⊥

-- "Two transitions of a state process the same event with different outcomes (Def. 4)."
abbrev pub Branches : Automaton → ℕ → Type 0
Branches a s = (i j : ℕ) → Leaves a s i → Leaves a s j → (i ≡ j → ⊥) → Branch (move a i).input (move a j).input

-- "A state that processes an event has one transition for each outcome of it (Def. 5, here for unbranched states too)."
-- That it is only one follows from the sentence before.
abbrev pub Serves : Automaton → (ℕ → ℕ) → ℕ → Type 0
Serves a outcomes s = (e o : ℕ) → Processes a s e o → (q : ℕ) → q < outcomes e → Processes a s e q

-- a path from s, with one transition more at its end
pub data Path (a : Automaton) (s : ℕ) : ℕ → Type 0 where
  none : Path a s s
  more : {q r : ℕ} → Path a s q → (i : ℕ) → Leaves a q i → (move a i).to ≡ r → Path a s r

-- "Every state has a path to a final one."
pub record ToFinal (a : Automaton) (s : ℕ) : Type 0 where
  pub end : ℕ
  pub way : Path a s end
  pub final : is_final a end ≡ true

abbrev pub EveryState : Automaton → (ℕ → Type 0) → Type 0
EveryState a P = (s : ℕ) → s < a.states → P s

-- ---- events along a path

-- how many of event e an input processes
abbrev pub takes : Input → ℕ → ℕ
takes x e = once e x

-- how many of event e an output emits: the nodes of e in its activity
abbrev pub emits : Plan → Output → ℕ → ℕ
emits p o e = events_in e (emitted_by p o)

abbrev pub processed : (a : Automaton) (e : ℕ) {s q : ℕ} → Path a s q → ℕ
processed a e none = 0
processed a e (more w i l t) = processed a e w + takes (move a i).input e

-- `gives o e` is how many of event e the output o emits
abbrev pub emitted : (a : Automaton) (gives : Output → ℕ → ℕ) (e : ℕ) {s q : ℕ} → Path a s q → ℕ
emitted a gives e none = 0
emitted a gives e (more w i l t) = emitted a gives e w + gives (move a i).output e

abbrev pub pending : (a : Automaton) (gives : Output → ℕ → ℕ) (e : ℕ) {s q : ℕ} → Path a s q → ℕ
pending a gives e w = emitted a gives e w - processed a e w

-- "Along every path from the initial state, an event is processed only while more of it have been emitted than processed,"
-- "A transition processes first, then emits": what it emits itself does not count.
abbrev pub EmittedFirst : Automaton → (Output → ℕ → ℕ) → Type 0
EmittedFirst a gives = (s : ℕ) (w : Path a a.initial s) (e o : ℕ) → Processes a s e o → processed a e w < emitted a gives e w

-- "none is left at a final state,"
abbrev pub NoneLeft : Automaton → (Output → ℕ → ℕ) → Type 0
NoneLeft a gives = (s : ℕ) (w : Path a a.initial s) → is_final a s ≡ true → (e : ℕ) → pending a gives e w ≡ 0

-- "and at most 8 of one event are pending at a state."
abbrev pub AtMostEight : Automaton → (Output → ℕ → ℕ) → Type 0
AtMostEight a gives = (s : ℕ) (w : Path a a.initial s) (e : ℕ) → pending a gives e w ≤ 8

-- the rules 21 to 24 hold at every state, unreachable ones too
abbrev pub Rule21 : Plan → Type 0
Rule21 p = EveryState p.automaton (NoWayOut p.automaton)

abbrev pub Rule22 : Plan → Type 0
Rule22 p = EveryState p.automaton (Branches p.automaton)

abbrev pub Rule23 : Plan → Type 0
Rule23 p = EveryState p.automaton (Serves p.automaton (outcomes_of p))

abbrev pub Rule24 : Plan → Type 0
Rule24 p = EveryState p.automaton (ToFinal p.automaton)

-- "What the automaton must satisfy"
pub record MeetsAutomaton (p : Plan) : Type 0 where
  pub ends : Rule21 p
  pub branches : Rule22 p
  pub serves : Rule23 p
  pub ways : Rule24 p
  pub first : EmittedFirst p.automaton (emits p)
  pub clear : NoneLeft p.automaton (emits p)
  pub few : AtMostEight p.automaton (emits p)

-- ---- the numbers

-- "place = lowest state at fault"
pub record LowestAtFault (a : Automaton) (P : ℕ → Type 0) (s : ℕ) : Type 0 where
  pub low : s < a.states
  pub fault : P s → ⊥
  pub below : (q : ℕ) → q < s → P q

-- "25 processed unemitted or left over"
pub data Breaks25 (a : Automaton) (gives : Output → ℕ → ℕ) : Type 0 where
  unemitted : {s : ℕ} (w : Path a a.initial s) (e o : ℕ) → Processes a s e o → emitted a gives e w ≤ processed a e w → Breaks25 a gives
  leftover : {s : ℕ} (w : Path a a.initial s) (e : ℕ) → is_final a s ≡ true → 0 < pending a gives e w → Breaks25 a gives

-- "26 more than 8 pending"
pub record Breaks26 (a : Automaton) (gives : Output → ℕ → ℕ) : Type 0 where
  pub state : ℕ
  pub path : Path a a.initial state
  pub event : ℕ
  pub many : 8 < pending a gives event path

-- "Then the automaton, each number over all states before the next, place = lowest state at fault: 21 way out of a final state;
-- 22 forbidden branch; 23 missing outcome; 24 no path to a final state; 25 processed unemitted or left over, place 0;
-- 26 more than 8 pending, place 0."
pub data Judges (p : Plan) : Verdict → Type 0 where
  number21 : {s : ℕ} → LowestAtFault p.automaton (NoWayOut p.automaton) s → Judges p (faulty Fault.WayOutOfFinal s)
  number22 : {s : ℕ} → Rule21 p → LowestAtFault p.automaton (Branches p.automaton) s → Judges p (faulty Fault.ForbiddenBranch s)
  number23 : {s : ℕ} → Rule21 p → Rule22 p → LowestAtFault p.automaton (Serves p.automaton (outcomes_of p)) s → Judges p (faulty Fault.OutcomeMissing s)
  number24 : {s : ℕ} → Rule21 p → Rule22 p → Rule23 p → LowestAtFault p.automaton (ToFinal p.automaton) s → Judges p (faulty Fault.NoWayToFinal s)
  number25 : Rule21 p → Rule22 p → Rule23 p → Rule24 p → Breaks25 p.automaton (emits p) → Judges p (faulty Fault.Unbalanced 0)
  number26 : Rule21 p → Rule22 p → Rule23 p → Rule24 p → (Breaks25 p.automaton (emits p) → ⊥) → Breaks26 p.automaton (emits p)
      → Judges p (faulty Fault.TooManyPending 0)
  accepted : MeetsAutomaton p → Judges p (Ok tt)
