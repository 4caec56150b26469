-- How a call goes: the eight ways, and how the window and the word change on them.
use Rattle.std.specs.Prelude.{◌≡◌, true, false, ◌⊎◌, ◌↔◌, ℕ, ◌+◌, ◌≤◌, ◌<◌, Option, Some, None}
use Rattle.time.specs.declared.Clock.{Clock}
use Rattle.run_window.specs.Window.{is_started, started_of}
use Rattle.run_window.specs.declared.Entry.{Entry}
use Rattle.run.specs.declared.Call.{Call}
use Rattle.run.specs.declared.Reply.{Reply}
use Rattle.run_checks.specs.declared.Refusal.{Refusal}
use Rattle.run_checks.specs.declared.Stop.{Stop}
use Rattle.run_loading.specs.declared.Failure.{Failure}
use Rattle.run.specs.Inner.Calls.{reply_after, halt_after}
use Rattle.demands_log.specs.Log.{Id, reading, Finishes}
use Rattle.demands_theory.proofs.Laws.Machine.{World, Machine, Window, Held, Waiting}
use Rattle.demands_theory.specs.Nodes.{id_of}

-- ---- a word

-- its actions and events last longer than the slack (33)
abbrev pub Outlasts : (W : World) → ℕ → W.Word → Type 0
Outlasts W slack word = (x : Id) → W.Node word x → W.start word x + slack < W.completion word x

-- what stands before a node is a node, and is complete when it starts
abbrev pub InOrder : (W : World) → W.Word → Type 0
InOrder W word = (m x : Id) → W.Node word x → W.Before word m x → W.Node word m × (W.completion word m ≤ W.start word x)

-- ---- the word grows

-- the entry is a node of the word, with its times and its activity
pub record Agrees (W : World) (word : W.Word) (e : Entry) : Type 0 where
  pub node : W.Node word (id_of e)
  pub starts : e.start.0 ≡ W.start word (id_of e)
  pub completes : e.end.0 ≡ W.completion word (id_of e)
  pub activity : W.Emits word e.position e.activity

-- the nodes of a word are nodes of a longer one, with the same times, and nothing new stands before them
pub record Extends (W : World) (word later : W.Word) : Type 0 where
  pub nodes : (x : Id) → W.Node word x → W.Node later x
  pub starts : (x : Id) → W.Node word x → W.start later x ≡ W.start word x
  pub completions : (x : Id) → W.Node word x → W.completion later x ≡ W.completion word x
  pub befores : (m x : Id) → W.Node word x → W.Before later m x → W.Before word m x
  pub activities : (q a : ℕ) → W.Emits word q a → W.Emits later q a

-- an entry that is loaded by the report of an event with the completion `floor`
pub record New (W : World) (word later : W.Word) (floor : ℕ) (e : Entry) : Type 0 where
  pub agrees : Agrees W later e
  pub unstarted : is_started e.phase ≡ false
  pub new : W.Node word (id_of e) → ⊥
  pub held_back : floor ≤ e.start.0

-- ---- the window changes

abbrev pub Stays : Window → Window → Type 0
Stays ws ws' = (j : ℕ) (f : Entry) → ws' j f ↔ ws j f

-- place i is cleared
abbrev pub Clears : Window → Window → ℕ → Type 0
Clears ws ws' i = (j : ℕ) (f : Entry) → ws' j f ↔ ((j ≡ i → ⊥) × ws j f)

-- the entry e at place i is started
abbrev pub Marks : Window → Window → ℕ → Entry → Type 0
Marks ws ws' i e = (j : ℕ) (f : Entry) → ws' j f ↔ (((j ≡ i) × (f ≡ started_of e)) ⊎ ((j ≡ i → ⊥) × ws j f))

-- place i is cleared, and new entries stand in other places: all that is new in the word, if the loading failed or not
pub record Loads (W : World) (ws ws' : Window) (i floor : ℕ) (word later : W.Word) : Type 0 where
  pub extends : Extends W word later
  pub kept : (j : ℕ) (f : Entry) → (j ≡ i → ⊥) → ws j f → ws' j f
  pub only : (j : ℕ) (f : Entry) → ws' j f → ((j ≡ i → ⊥) × ws j f) ⊎ New W word later floor f
  pub distinct : (j k : ℕ) (f g : Entry) → ws' j f → ws' k g → id_of f ≡ id_of g → j ≡ k
  pub all : (x : Id) → W.Node later x → W.Node word x ⊎ Held ws' x

-- an answered start names the activity of the word at its position
abbrev pub RightActivity : (W : World) → W.Word → Reply → Type 0
RightActivity W word (Reply.Start q a n) = W.Emits word q a
RightActivity W word Reply.Wait = Unit {0}
RightActivity W word Reply.Done = Unit {0}
RightActivity W word Reply.Taken = Unit {0}
RightActivity W word (Reply.Refused f) = Unit {0}
RightActivity W word (Reply.Stopped s) = Unit {0}

-- ---- a call

-- past the tests for 51, 42 and 41
pub record Clear (psi slack last : ℕ) (ws : Window) (t : ℕ) : Type 0 where
  pub rises : last ≤ t
  pub not_overdue : (i : ℕ) (e : Entry) → ws i e → is_started e.phase ≡ true → t < psi + e.end.0
  pub not_late : (i : ℕ) (e : Entry) → ws i e → is_started e.phase ≡ false → t ≤ psi + e.start.0 + slack

-- a run that was going makes the reading t its last one, and then stands as h
pub record Turns (M : Machine) (run run' : M.Run) (t : ℕ) (h : Option Stop) : Type 0 where
  pub going : M.halt run ≡ None
  pub last : M.last run' ≡ t
  pub halt : M.halt run' ≡ h

-- wait or done
abbrev pub Idle : Reply → Type 0
Idle (Reply.Start p a n) = ⊥
Idle Reply.Wait = Unit {0}
Idle Reply.Done = Unit {0}
Idle Reply.Taken = ⊥
Idle (Reply.Refused f) = ⊥
Idle (Reply.Stopped s) = ⊥

-- done and wait, each in its condition
pub record Answers (W : World) (word : W.Word) (ws : Window) (r : Reply) : Type 0 where
  pub done_final : Finishes r → W.Final word
  pub done_empty : Finishes r → (i : ℕ) (e : Entry) → ws i e → ⊥
  pub wait_only : Waiting r → W.Final word → (i : ℕ) × (e : Entry) × ws i e

-- from `run`, with the word taken so far, to `run'`, with the word that is its index
pub data Way (W : World) (M : Machine) (psi slack : ℕ) (run run' : M.Run) (word : W.Word) : W.Word → Call → Reply → Type 0 where
  keeps : {c : Call} {s : Stop} → M.halt run ≡ Some s → run' ≡ run → Way W M psi slack run run' word word c (Reply.Stopped s)
  refuses : {c : Call} {f : Refusal} → M.halt run ≡ None → (f ≡ Refusal.OutOfLimits → ⊥) → run' ≡ run → Way W M psi slack run run' word word c (Reply.Refused f)
  overdues : {c : Call} (i : ℕ) (e : Entry) → Turns M run run' (reading c) (Some (Stop.Overdue e.position e.node)) → Stays (M.holds run) (M.holds run')
      → M.holds run i e → is_started e.phase ≡ true → psi + e.end.0 ≤ reading c
      → Way W M psi slack run run' word word c (Reply.Stopped (Stop.Overdue e.position e.node))
  lates : {c : Call} (i : ℕ) (e : Entry) → Turns M run run' (reading c) (Some (Stop.Late e.position e.node)) → Stays (M.holds run) (M.holds run')
      → M.last run ≤ reading c → M.holds run i e → is_started e.phase ≡ false → psi + e.start.0 + slack < reading c
      → Way W M psi slack run run' word word c (Reply.Stopped (Stop.Late e.position e.node))
  begins : {t : Clock} (i : ℕ) (e : Entry) → Turns M run run' t.0 None → Clear psi slack (M.last run) (M.holds run) t.0
      → M.holds run i e → is_started e.phase ≡ false → psi + e.start.0 ≤ t.0 → Marks (M.holds run) (M.holds run') i e
      → Way W M psi slack run run' word word (Call.Ask t) (Reply.Start e.position e.activity e.node)
  idles : {t : Clock} {r : Reply} → Turns M run run' t.0 None → Clear psi slack (M.last run) (M.holds run) t.0 → Idle r
      → ((i : ℕ) (e : Entry) → M.holds run i e → is_started e.phase ≡ false → t.0 < psi + e.start.0) → Answers W word (M.holds run) r
      → Stays (M.holds run) (M.holds run') → Way W M psi slack run run' word word (Call.Ask t) r
  completes : {t : Clock} (i : ℕ) (e : Entry) → Turns M run run' t.0 None → Clear psi slack (M.last run) (M.holds run) t.0
      → M.holds run i e → is_started e.phase ≡ true → Clears (M.holds run) (M.holds run') i
      → Way W M psi slack run run' word word (Call.Completion t e.position e.node) Reply.Taken
  learns : {later : W.Word} {t : Clock} {o : ℕ} (i : ℕ) (e : Entry) (f : Option Failure) → Turns M run run' t.0 (halt_after f) → Clear psi slack (M.last run) (M.holds run) t.0
      → M.holds run i e → is_started e.phase ≡ true → Loads W (M.holds run) (M.holds run') i e.end.0 word later
      → Way W M psi slack run run' word later (Call.Outcome t e.position e.node o) (reply_after f)
