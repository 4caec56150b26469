-- The answer to the next call, from plan, Ψ, slack, word, times and log alone: "every number of an opening or a call, and done,
-- occurs in its stated condition and order and in no other", over what a host can write down itself.
use Rattle.std.specs.Prelude.{◌≡◌, true, cond, List, [], ◌∷◌, ℕ, ◌+◌, ◌≤◌, ◌<◌, Option, Some, None}
use Rattle.plan.specs.Plan.{is_final, outcomes_of}
use Rattle.plan.specs.declared.Kind.{Kind}
use Rattle.plan.specs.declared.Plan.{Plan}
use Rattle.times_combined.specs.Combined.{Ident, Is}
use Rattle.time.specs.declared.Clock.{Clock}
use Rattle.run_checks.specs.declared.Stop.{Stop}
use Rattle.run.specs.declared.Call.{Call}
use Rattle.run.specs.declared.Reply.{Reply}
use Rattle.run_checks.specs.declared.Refusal.{Refusal}
use Rattle.run_loading.specs.declared.Failure.{Failure}
use Rattle.demands_log.specs.Log.{Id, id, Log, said, reading, Started, StoppedIn, StoppedBy}
use Rattle.demands_log.specs.Host.{is_refused}
use Rattle.demands_theory.specs.Nodes.{whose, EmitsAt}
use Rattle.demands_theory.specs.TheWord.{state_after, whole_of}
use Rattle.demands_theory.specs.Loading.{Unreported, Loads}
use Rattle.demands.specs.Conditions.{IsAction, RightKind}
use Rattle.demands.specs.Served.{Turn, Served}

-- what is known after some calls: the plan, Ψ, the slack and the availabilities of the opening, the word of their log and its
-- specified times, and the log
pub record Known : Type 0 where
  pub plan : Plan
  pub psi : ℕ
  pub slack : ℕ
  pub available : ℕ → ℕ
  pub word : List ℕ
  pub S : Ident → ℕ
  pub C : Ident → ℕ
  pub log : Log

-- ---- the log

-- "Any other answer makes its reading the last one, 0 at opening"
abbrev pub last_reading : Log → ℕ
last_reading [] = 0
last_reading (y ∷ older) = cond (is_refused y.reply) (last_reading older) (reading y.call)

-- ---- nodes

-- an action or event of the word, not yet reported: it stands in the window
abbrev pub Open : Known → Id → Type 0
Open k x = Unreported k.plan k.log k.word x

-- "the reading is at or past Ψ + completion of a started, unreported node"
pub record Overdue (k : Known) (t : ℕ) (x : Id) : Type 0 where
  pub stands : Open k x
  pub started : Started k.log x
  pub past : k.psi + k.C (whose x) ≤ t

-- "the reading exceeds Ψ + start + slack of an unstarted node"
pub record Late (k : Known) (t : ℕ) (x : Id) : Type 0 where
  pub stands : Open k x
  pub unstarted : Started k.log x → ⊥
  pub past : k.psi + k.S (whose x) + k.slack < t

-- "the due, unstarted node"
pub record Due (k : Known) (t : ℕ) (x : Id) : Type 0 where
  pub stands : Open k x
  pub unstarted : Started k.log x → ⊥
  pub due : k.psi + k.S (whose x) ≤ t

-- x goes first of x and y: by time, "by position and node"
pub data NotAfter (T : Ident → ℕ) (x y : Id) : Type 0 where
  time : T (whose x) < T (whose y) → NotAfter T x y
  position : T (whose x) ≡ T (whose y) → x.position < y.position → NotAfter T x y
  node : T (whose x) ≡ T (whose y) → x.position ≡ y.position → x.node ≤ y.node → NotAfter T x y

-- of the nodes that have P, the first
pub record Earliest (T : Ident → ℕ) (P : Id → Type 0) (x : Id) : Type 0 where
  pub has : P x
  pub first : (y : Id) → P y → NotAfter T x y

-- what decides when node x of kind h is served
abbrev pub turn_of : Known → Id → Kind → Turn
turn_of k x h = record { start = k.S (whose x); kind = h; position = x.position; node = x.node }

-- x is served before y, by start and kinds of the nodes in the combined activity of the word
pub record ServedBefore (k : Known) (x y : Id) : Type 0 where
  pub kinds : Kind × Kind
  pub is : Is (whole_of k.plan k.word) (whose x) kinds.0
  pub other : Is (whole_of k.plan k.word) (whose y) kinds.1
  pub served : Served (turn_of k x kinds.0) (turn_of k y kinds.1)

-- of the nodes that have P, the one that is served first
pub record FirstServed (k : Known) (P : Id → Type 0) (x : Id) : Type 0 where
  pub has : P x
  pub first : (y : Id) → P y → (y ≡ x → ⊥) → ServedBefore k x y

-- ---- "Order at a call: 50, kept stop, 51, 42, 41, 52 to 55."; 50 is none of an opened run's

-- no kept stop, nor 51
pub record Rises (k : Known) (t : ℕ) : Type 0 where
  pub going : StoppedIn k.log → ⊥
  pub rises : last_reading k.log ≤ t

-- nor 42
pub record NotOverdue (k : Known) (t : ℕ) : Type 0 where
  pub rises : Rises k t
  pub none : (x : Id) → Overdue k t x → ⊥

-- nor 41
pub record Timely (k : Known) (t : ℕ) : Type 0 where
  pub not_overdue : NotOverdue k t
  pub none : (x : Id) → Late k t x → ⊥

-- ---- reports

-- the node that a report names
pub data Names : Call → Id → Type 0 where
  completion : {t : Clock} {p n : ℕ} → Names (Call.Completion t p n) (id p n)
  outcome : {t : Clock} {p n o : ℕ} → Names (Call.Outcome t p n o) (id p n)

-- a timely report of a started node x, of kind h
pub record Reports (k : Known) (c : Call) (x : Id) (h : Kind) : Type 0 where
  pub timely : Timely k (reading c)
  pub names : Names c x
  pub stands : Open k x
  pub started : Started k.log x
  pub kind : Is (whole_of k.plan k.word) (whose x) h

pub data Refuses (k : Known) : Call → Refusal → Type 0 where
  -- "reading below the last one"
  number51 : {c : Call} → (StoppedIn k.log → ⊥) → reading c < last_reading k.log → Refuses k c Refusal.ReadingBelow
  -- "no such node in the window"
  number52 : {c : Call} (x : Id) → Timely k (reading c) → Names c x → (Open k x → ⊥) → Refuses k c Refusal.NoSuchNode
  -- "node not started"
  number53 : {c : Call} (x : Id) → Timely k (reading c) → Names c x → Open k x → (Started k.log x → ⊥) → Refuses k c Refusal.NotStarted
  -- "completion of an event or outcome of an action"
  number54 : {c : Call} (x : Id) (h : Kind) → Reports k c x h → (RightKind c h → ⊥) → Refuses k c Refusal.OtherKind
  -- "outcome the event lacks"
  number55 : {t : Clock} {p n o : ℕ} (x : Id) (e : ℕ) → Reports k (Call.Outcome t p n o) x (Kind.Event e) → outcomes_of k.plan e ≤ o → Refuses k (Call.Outcome t p n o) Refusal.OutcomeLacking

-- an outcome that is accepted, of the event e
pub record Learns (k : Known) (c : Call) (o e : ℕ) : Type 0 where
  pub node : Id
  pub reports : Reports k c node (Kind.Event e)
  pub has : o < outcomes_of k.plan e

-- ---- ask

-- "the path ended in a final state and the window is empty"
pub record Ended (k : Known) : Type 0 where
  pub final : is_final k.plan.automaton (state_after k.plan k.word) ≡ true
  pub empty : (x : Id) → Open k x → ⊥

pub data Asks (k : Known) : Call → Reply → Type 0 where
  -- "Ask starts the due, unstarted node with the earliest specified start"; ties as in Served
  starts : {t : Clock} {q a n : ℕ} → Timely k t.0 → FirstServed k (Due k t.0) (id q n) → EmitsAt k.plan k.word q a → Asks k (Call.Ask t) (Reply.Start q a n)
  -- "It says done if the path ended in a final state and the window is empty"
  done : {t : Clock} → Timely k t.0 → Ended k → Asks k (Call.Ask t) Reply.Done
  -- "otherwise wait when nothing is due"
  waits : {t : Clock} → Timely k t.0 → ((x : Id) → Due k t.0 x → ⊥) → (Ended k → ⊥) → Asks k (Call.Ask t) Reply.Wait

-- ---- loading after the outcome of c ends with f: the report counts. No state awaits a marker, so nothing is loaded after its report

abbrev pub After : Known → Call → Option Failure → Type 0
After k c f = (v : List ℕ) × Loads k.plan k.available (said c Reply.Taken ∷ k.log) k.word v f

pub data Halts (k : Known) : Call → Stop → Type 0 where
  -- "A call to a stopped run .. answers the stop."
  kept : {c : Call} {s : Stop} → StoppedBy k.log s → Halts k c s
  -- "naming the one with the earliest completion"
  number42 : {c : Call} {p n : ℕ} → Rises k (reading c) → Earliest k.C (Overdue k (reading c)) (id p n) → Halts k c (Stop.Overdue p n)
  -- "naming the one with the earliest start"; ties as in Served
  number41 : {c : Call} {p n : ℕ} → NotOverdue k (reading c) → FirstServed k (Late k (reading c)) (id p n) → Halts k c (Stop.Late p n)
  -- "if loading after it fails the answer is stopped"
  number43 : {t : Clock} {p n o : ℕ} (e : ℕ) → Learns k (Call.Outcome t p n o) o e → After k (Call.Outcome t p n o) (Some Failure.Full) → Halts k (Call.Outcome t p n o) Stop.Full
  number44 : {t : Clock} {p n o : ℕ} (e : ℕ) → Learns k (Call.Outcome t p n o) o e → After k (Call.Outcome t p n o) (Some Failure.Beyond) → Halts k (Call.Outcome t p n o) Stop.Beyond

-- "An accepted report is taken"
pub data Takes (k : Known) : Call → Type 0 where
  completion : {t : Clock} {p n : ℕ} (x : Id) (h : Kind) → Reports k (Call.Completion t p n) x h → IsAction h → Takes k (Call.Completion t p n)
  outcome : {t : Clock} {p n o : ℕ} (e : ℕ) → Learns k (Call.Outcome t p n o) o e → After k (Call.Outcome t p n o) None → Takes k (Call.Outcome t p n o)

-- the condition of each reply
abbrev pub Answered : Known → Call → Reply → Type 0
Answered k c (Reply.Start p a n) = Asks k c (Reply.Start p a n)
Answered k c Reply.Wait = Asks k c Reply.Wait
Answered k c Reply.Done = Asks k c Reply.Done
Answered k c Reply.Taken = Takes k c
Answered k c (Reply.Refused f) = Refuses k c f
Answered k c (Reply.Stopped s) = Halts k c s
