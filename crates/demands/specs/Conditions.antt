-- "every number of an opening or a call, and done, occurs in its stated condition and order and in no other": the
-- condition of each reply to a call. The run is any run, a made-up one too.
use Rattle.std.specs.Prelude.{◌≡◌, Bool, true, false, ◌↔◌, ℕ, ◌+◌, ◌≤◌, ◌<◌, get_or, Option, Some, None}
use Rattle.time.specs.Time.{to_clock}
use Rattle.time.specs.declared.Clock.{Clock}
use Rattle.plan.specs.Plan.{is_final, outcomes_of}
use Rattle.plan.specs.declared.Kind.{Kind}
use Rattle.run_window.specs.declared.Entry.{Entry}
use Rattle.run_window.specs.declared.Phase.{Phase}
use Rattle.run_window.specs.Window.{vacant, is_held, starts_before, ends_before, by_start}
use Rattle.run.specs.declared.Run.{Run}
use Rattle.run_checks.specs.declared.Stop.{Stop}
use Rattle.run.specs.declared.Call.{Call}
use Rattle.run.specs.declared.Reply.{Reply}
use Rattle.run_checks.specs.declared.Refusal.{Refusal}
use Rattle.run_loading.specs.declared.Failure.{Failure}
use Rattle.run.specs.Loading.{further, most_pending}
use Rattle.run_outcomes.specs.Told.{told_of}
use Rattle.run.specs.Calls.{call_of, reading_of, kind_of, cleared}
use Rattle.demands.specs.InLimits.{RunInLimits}

-- ---- places of the window

abbrev pub entry_at : Run → ℕ → Entry
entry_at run i = get_or run.window i vacant

-- "the reading is at or past Ψ + completion of a started, unreported node"
pub record OverdueAt (run : Run) (t : Clock) (i : ℕ) : Type 0 where
  pub started : (entry_at run i).phase ≡ Phase.Started
  pub past : (to_clock run.psi (entry_at run i).end).0 ≤ t.0

-- "the reading exceeds Ψ + start + slack of an unstarted node"
pub record LateAt (run : Run) (t : Clock) (i : ℕ) : Type 0 where
  pub unstarted : (entry_at run i).phase ≡ Phase.Loaded
  pub past : (to_clock run.psi (entry_at run i).start).0 + run.slack < t.0

-- "the due, unstarted node"
pub record DueAt (run : Run) (t : Clock) (i : ℕ) : Type 0 where
  pub unstarted : (entry_at run i).phase ≡ Phase.Loaded
  pub due : (to_clock run.psi (entry_at run i).start).0 ≤ t.0

-- "A node's identity is its position .. and its node number."
pub record NodeAt (run : Run) (p n i : ℕ) : Type 0 where
  pub held : is_held (entry_at run i).phase ≡ true
  pub position : (entry_at run i).position ≡ p
  pub node : (entry_at run i).node ≡ n

-- no place has P
abbrev pub Nowhere : (ℕ → Type 0) → Type 0
Nowhere P = (i : ℕ) → P i → ⊥

-- Place i has P, and none that has P goes before it. Entries with one time, rank, position and node go alike: only a made-up run
-- holds such, and of them the lowest place is taken.
pub record FirstOf (run : Run) (P : ℕ → Type 0) (goes : Entry → Entry → Bool) (i : ℕ) : Type 0 where
  pub has : P i
  pub first : (j : ℕ) → P j → goes (entry_at run j) (entry_at run i) ≡ false
  pub lowest : (j : ℕ) → P j → j < i → goes (entry_at run i) (entry_at run j) ≡ true

-- ---- "Order at a call: 50, kept stop, 51, 42, 41, 52 to 55."

-- neither 50 nor a kept stop
pub record Going (run : Run) : Type 0 where
  pub limits : RunInLimits run
  pub going : run.halt ≡ None

-- nor 51
pub record Rises (run : Run) (t : Clock) : Type 0 where
  pub going : Going run
  pub rises : run.last.0 ≤ t.0

-- nor 42
pub record NotOverdue (run : Run) (t : Clock) : Type 0 where
  pub rises : Rises run t
  pub none : Nowhere (OverdueAt run t)

-- nor 41
pub record Timely (run : Run) (t : Clock) : Type 0 where
  pub not_overdue : NotOverdue run t
  pub none : Nowhere (LateAt run t)

-- ---- what a report names

abbrev pub IsReport : Call → Type 0
IsReport (Call.Ask t) = ⊥
IsReport (Call.Completion t p n) = Unit {0}
IsReport (Call.Outcome t p n o) = Unit {0}

-- place i holds the node that the call names
abbrev pub NamedAt : Run → Call → ℕ → Type 0
NamedAt run (Call.Ask t) = λ i. ⊥
NamedAt run (Call.Completion t p n) = NodeAt run p n
NamedAt run (Call.Outcome t p n o) = NodeAt run p n

-- a timely report of a started node, at place i
pub record Reports (run : Run) (c : Call) (i : ℕ) : Type 0 where
  pub timely : Timely run (reading_of c)
  pub named : FirstOf run (NamedAt run c) by_start i
  pub started : (entry_at run i).phase ≡ Phase.Started

abbrev pub IsAction : Kind → Type 0
IsAction (Kind.Action a x) = Unit {0}
IsAction (Kind.Claim r) = ⊥
IsAction (Kind.Release r) = ⊥
IsAction (Kind.Event e) = ⊥

abbrev pub IsEvent : Kind → Type 0
IsEvent (Kind.Action a x) = ⊥
IsEvent (Kind.Claim r) = ⊥
IsEvent (Kind.Release r) = ⊥
IsEvent (Kind.Event e) = Unit {0}

-- "completion of an action, outcome of an event"
abbrev pub RightKind : Call → Kind → Type 0
RightKind (Call.Ask t) k = ⊥
RightKind (Call.Completion t p n) k = IsAction k
RightKind (Call.Outcome t p n o) k = IsEvent k

-- an outcome that is accepted: place i holds a node of event e, which has outcome o
pub record Learns (run : Run) (t : Clock) (p n o i e : ℕ) : Type 0 where
  pub reports : Reports run (Call.Outcome t p n o) i
  pub event : kind_of run (entry_at run i) ≡ Kind.Event e
  pub has : o < outcomes_of run.plan e

-- an event with more than one outcome: its report is stored, and may load paths
pub record Decides (run : Run) (t : Clock) (p n o i e : ℕ) : Type 0 where
  pub learns : Learns run t p n o i e
  pub several : 1 < outcomes_of run.plan e

-- how loading after that outcome ends: a run made up by the host has no word, so it is quoted here. Of an opened run ByLog says
-- it over the word and the log, of any run Laws/LoadingFails path by path
abbrev pub loading_after : Run → Clock → ℕ → ℕ → ℕ → Option Failure
loading_after run t o i e = (further most_pending (cleared run t i (told_of run.progress e (entry_at run i) o))).failure

-- ---- refused

pub data Refuses (run : Run) : Call → Refusal → Type 0 where
  -- "a run in which a stored count, number or time lies outside this paper's or its plan's limits"
  number50 : {c : Call} → (RunInLimits run → ⊥) → Refuses run c Refusal.OutOfLimits
  -- "reading below the last one"
  number51 : {c : Call} → Going run → (reading_of c).0 < run.last.0 → Refuses run c Refusal.ReadingBelow
  -- "no such node in the window"
  number52 : {c : Call} → Timely run (reading_of c) → IsReport c → Nowhere (NamedAt run c) → Refuses run c Refusal.NoSuchNode
  -- "node not started"
  number53 : {c : Call} (i : ℕ) → Timely run (reading_of c) → FirstOf run (NamedAt run c) by_start i → (entry_at run i).phase ≡ Phase.Loaded → Refuses run c Refusal.NotStarted
  -- "completion of an event or outcome of an action"
  number54 : {c : Call} (i : ℕ) → Reports run c i → (RightKind c (kind_of run (entry_at run i)) → ⊥) → Refuses run c Refusal.OtherKind
  -- "outcome the event lacks"
  number55 : {t : Clock} {p n o : ℕ} (i e : ℕ) → Reports run (Call.Outcome t p n o) i → kind_of run (entry_at run i) ≡ Kind.Event e → outcomes_of run.plan e ≤ o
      → Refuses run (Call.Outcome t p n o) Refusal.OutcomeLacking

-- ---- stopped

pub data Halts (run : Run) : Call → Stop → Type 0 where
  -- "A call to a stopped run .. answers the stop."
  kept : {c : Call} {s : Stop} → RunInLimits run → run.halt ≡ Some s → Halts run c s
  -- "naming the one with the earliest completion"
  number42 : {c : Call} (i : ℕ) → Rises run (reading_of c) → FirstOf run (OverdueAt run (reading_of c)) ends_before i
      → Halts run c (Stop.Overdue (entry_at run i).position (entry_at run i).node)
  -- "naming the one with the earliest start"; ties in words: Served
  number41 : {c : Call} (i : ℕ) → NotOverdue run (reading_of c) → FirstOf run (LateAt run (reading_of c)) (starts_before run.plan.nodes) i
      → Halts run c (Stop.Late (entry_at run i).position (entry_at run i).node)
  -- "if loading after it fails the answer is stopped"
  number43 : {t : Clock} {p n o : ℕ} (i e : ℕ) → Decides run t p n o i e → loading_after run t o i e ≡ Some Failure.Full → Halts run (Call.Outcome t p n o) Stop.Full
  number44 : {t : Clock} {p n o : ℕ} (i e : ℕ) → Decides run t p n o i e → loading_after run t o i e ≡ Some Failure.Beyond → Halts run (Call.Outcome t p n o) Stop.Beyond

-- ---- ask

-- "the path ended in a final state and the window is empty"
pub record Ended (run : Run) : Type 0 where
  pub final : is_final run.plan.automaton run.progress.state ≡ true
  pub empty : (i : ℕ) → (entry_at run i).phase ≡ Phase.Free

pub data Asks (run : Run) : Call → Reply → Type 0 where
  -- "Ask starts the due, unstarted node with the earliest specified start"; ties in words: Served
  starts : {t : Clock} (i : ℕ) → Timely run t → FirstOf run (DueAt run t) (starts_before run.plan.nodes) i
      → Asks run (Call.Ask t) (Reply.Start (entry_at run i).position (entry_at run i).activity (entry_at run i).node)
  -- "It says done if the path ended in a final state and the window is empty"
  done : {t : Clock} → Timely run t → Ended run → Asks run (Call.Ask t) Reply.Done
  -- "otherwise wait when nothing is due"
  waits : {t : Clock} → Timely run t → Nowhere (DueAt run t) → (Ended run → ⊥) → Asks run (Call.Ask t) Reply.Wait

-- ---- taken: "An accepted report is taken"

pub data Takes (run : Run) : Call → Type 0 where
  completion : {t : Clock} {p n : ℕ} (i : ℕ) → Reports run (Call.Completion t p n) i → IsAction (kind_of run (entry_at run i)) → Takes run (Call.Completion t p n)
  outcome : {t : Clock} {p n o : ℕ} (i e : ℕ) → Decides run t p n o i e → loading_after run t o i e ≡ None → Takes run (Call.Outcome t p n o)
  -- a marker's "report closes the node and is not queued"
  marker : {t : Clock} {p n o : ℕ} (i e : ℕ) → Learns run t p n o i e → outcomes_of run.plan e ≡ 1 → Takes run (Call.Outcome t p n o)

-- ---- each reply occurs in its condition and in no other

abbrev pub Condition : Run → Call → Reply → Type 0
Condition run c (Reply.Start p a n) = Asks run c (Reply.Start p a n)
Condition run c Reply.Wait = Asks run c Reply.Wait
Condition run c Reply.Done = Asks run c Reply.Done
Condition run c Reply.Taken = Takes run c
Condition run c (Reply.Refused f) = Refuses run c f
Condition run c (Reply.Stopped s) = Halts run c s

abbrev pub StatementReplies : Type 0
StatementReplies = (run : Run) (c : Call) (r : Reply) → ((call_of run c).reply ≡ r) ↔ Condition run c r

abbrev pub StatementRefusals : Type 0
StatementRefusals = (run : Run) (c : Call) (f : Refusal) → ((call_of run c).reply ≡ Reply.Refused f) ↔ Refuses run c f

abbrev pub StatementLate : Type 0
StatementLate = (run : Run) (c : Call) (p n : ℕ) → ((call_of run c).reply ≡ Reply.Stopped (Stop.Late p n)) ↔ Halts run c (Stop.Late p n)

abbrev pub StatementOverdue : Type 0
StatementOverdue = (run : Run) (c : Call) (p n : ℕ) → ((call_of run c).reply ≡ Reply.Stopped (Stop.Overdue p n)) ↔ Halts run c (Stop.Overdue p n)

abbrev pub StatementFull : Type 0
StatementFull = (run : Run) (c : Call) → ((call_of run c).reply ≡ Reply.Stopped Stop.Full) ↔ Halts run c Stop.Full

abbrev pub StatementBeyond : Type 0
StatementBeyond = (run : Run) (c : Call) → ((call_of run c).reply ≡ Reply.Stopped Stop.Beyond) ↔ Halts run c Stop.Beyond

abbrev pub StatementStart : Type 0
StatementStart = (run : Run) (c : Call) (p a n : ℕ) → ((call_of run c).reply ≡ Reply.Start p a n) ↔ Asks run c (Reply.Start p a n)

abbrev pub StatementDone : Type 0
StatementDone = (run : Run) (c : Call) → ((call_of run c).reply ≡ Reply.Done) ↔ Asks run c Reply.Done

abbrev pub StatementWait : Type 0
StatementWait = (run : Run) (c : Call) → ((call_of run c).reply ≡ Reply.Wait) ↔ Asks run c Reply.Wait

abbrev pub StatementTaken : Type 0
StatementTaken = (run : Run) (c : Call) → ((call_of run c).reply ≡ Reply.Taken) ↔ Takes run c
