-- Demand 3, "a single claim about the whole list": of the word of the log, with its specified times, and the run after the list.
use Rattle.std.specs.Prelude.{◌≡◌, true, List, [], ◌∷◌, ◌⊎◌, ◌↔◌, ℕ, ◌+◌, ◌≤◌, ◌<◌}
use Rattle.plan.specs.Plan.{is_final}
use Rattle.plan.specs.declared.Plan.{Plan}
use Rattle.times_combined.specs.Combined.{Ident, Before}
use Rattle.run_window.specs.Window.{is_started}
use Rattle.run_window.specs.Places.{Holds}
use Rattle.run_window.specs.declared.Entry.{Entry}
use Rattle.run.specs.declared.Run.{Run}
use Rattle.run.specs.declared.Reply.{Reply}
use Rattle.run_checks.specs.declared.Refusal.{Refusal}
use Rattle.run_checks.specs.declared.Stop.{Stop}
use Rattle.demands_log.specs.Log.{Id, Said, Log, Always, reading, IsAsk, Starts, Started, StoppedBy, Reports, Reported, FailedIn, Finishes}
use Rattle.demands_log.specs.Host.{Host, Mild}
use Rattle.demands_log.specs.Drive.{Driven}
use Rattle.demands_theory.specs.Nodes.{whose, Work, EmitsAt, id_of}
use Rattle.demands_theory.specs.TheWord.{state_after, whole_of, Tail}
use Rattle.demands_theory.specs.Loading.{Unreported, PathBeyond, PathFull, Fits}

-- ---- the window

-- node x stands in the window, with its times
pub record Held (run : Run) (S C : Ident → ℕ) (x : Id) : Type 0 where
  pub place : ℕ
  pub entry : Entry
  pub holds : Holds run.window place entry
  pub node : id_of entry ≡ x
  pub start : entry.start.0 ≡ S (whose x)
  pub end : entry.end.0 ≡ C (whose x)

-- an entry is an action or event of the word, not yet reported, with its times and its activity
pub record OfTheWord (p : Plan) (is : List ℕ) (S C : Ident → ℕ) (log : Log) (e : Entry) : Type 0 where
  pub node : Work (whole_of p is) (id_of e)
  pub unreported : Reported log (id_of e) → ⊥
  pub start : e.start.0 ≡ S (whose (id_of e))
  pub end : e.end.0 ≡ C (whose (id_of e))
  pub activity : EmitsAt p is e.position e.activity

-- the transitions v are loaded: the longest beginning of the word that fits
pub record Loaded (p : Plan) (available : ℕ → ℕ) (is : List ℕ) (S C : Ident → ℕ) (d : Driven) (v : List ℕ) : Type 0 where
  pub begins : Tail v is
  pub fits : Fits p available d.log v
  pub longest : (u : List ℕ) → Tail u is → Fits p available d.log u → Tail u v
  -- unless a loading has failed they are the whole word
  pub whole : (FailedIn d.log → ⊥) → v ≡ is
  -- and if one has, the next path is the one that fails, by the number answered: 44, 43
  pub beyond : StoppedBy d.log Stop.Beyond → PathBeyond p available d.log v
  pub full : StoppedBy d.log Stop.Full → PathFull p available d.log v
  -- the window holds exactly their actions and events not yet reported: a failing path "adds nothing"
  pub window : (x : Id) → Held d.run S C x ↔ Unreported p d.log v x

-- ---- done

-- done is answered exactly where the word has ended in a final state and everything is reported: of the last call of a list
pub record DoneExactly (p : Plan) (is : List ℕ) (y : Said) (older : Log) : Type 0 where
  pub final : Finishes y.reply → is_final p.automaton (state_after p is) ≡ true
  pub all : Finishes y.reply → (x : Id) → Work (whole_of p is) x → Reported older x
  pub only : y.reply ≡ Reply.Wait → is_final p.automaton (state_after p is) ≡ true → ((x : Id) → Work (whole_of p is) x → Reported older x) → ⊥

abbrev pub Ends : Plan → List ℕ → Log → Type 0
Ends p is [] = Unit {0}
Ends p is (y ∷ older) = DoneExactly p is y older

-- ---- the claim

-- `available`: the opening's availabilities; `is`: the word of the log; S and C: its specified times
pub record Demand3 (p : Plan) (psi slack : ℕ) (available : ℕ → ℕ) (is : List ℕ) (S C : Ident → ℕ) (d : Driven) : Type 0 where
  -- "A node is started by the ask answered start with it"
  pub by_ask : Always (λ y older. (x : Id) → Starts y.reply x → IsAsk y.call) d.log
  -- no node is started twice
  pub once : Always (λ y older. (x : Id) → Starts y.reply x → Started older x → ⊥) d.log
  -- "Every started node is one of its actions and events", and is named with its activity
  pub in_word : Always (λ y older. (x : Id) → Starts y.reply x → Work (whole_of p is) x) d.log
  pub in_activity : Always (λ y older. (q a n : ℕ) → y.reply ≡ Reply.Start q a n → EmitsAt p is q a) d.log
  -- none before its specified clock start, nor later than that plus the slack
  pub from : Always (λ y older. (x : Id) → Starts y.reply x → psi + S (whose x) ≤ reading y.call) d.log
  pub until : Always (λ y older. (x : Id) → Starts y.reply x → reading y.call ≤ psi + S (whose x) + slack) d.log
  -- none before all that it depends on was reported, in an earlier call
  pub after_all : Always (λ y older. (x m : Id) → Starts y.reply x → Before (whole_of p is) (whose m) (whose x) → Reported older m) d.log
  -- reports are of started nodes, before their specified clock completion, and no node is reported twice
  pub reported_started : Always (λ y older. (x : Id) → Reports y.call y.reply older x → Started older x) d.log
  pub reported_early : Always (λ y older. (x : Id) → Reports y.call y.reply older x → reading y.call < psi + C (whose x)) d.log
  pub reported_once : Always (λ y older. (x : Id) → Reports y.call y.reply older x → Reported older x → ⊥) d.log
  -- "unless a loading has failed, the window holds exactly those of them not yet reported"
  pub window_exact : (FailedIn d.log → ⊥) → (x : Id) → Held d.run S C x ↔ Unreported p d.log is x
  pub window_or_reported : (FailedIn d.log → ⊥) → (x : Id) → Work (whole_of p is) x → Held d.run S C x ⊎ Reported d.log x
  -- and if one has failed, those of the longest beginning of the word that fits
  pub loaded : (v : List ℕ) × Loaded p available is S C d v
  -- nothing else stands there, each stands there once, and is marked as started if it is
  pub window_only : (i : ℕ) (e : Entry) → Holds d.run.window i e → OfTheWord p is S C d.log e
  pub window_once : (i j : ℕ) (e f : Entry) → Holds d.run.window i e → Holds d.run.window j f → id_of e ≡ id_of f → i ≡ j
  pub window_started : (i : ℕ) (e : Entry) → Holds d.run.window i e → (is_started e.phase ≡ true) ↔ Started d.log (id_of e)
  -- "It says done if the path ended in a final state and the window is empty, otherwise wait when nothing is due"
  pub done : (FailedIn d.log → ⊥) → Ends p is d.log
  -- under a well-behaved host the run never stops as late or overdue
  pub never_late : Host psi slack (λ x. C (whose x)) d.log → Always (λ y older. Mild y.reply) d.log
  -- "no call in a list as in demand 3 gets 50 after an accepted opening"
  pub never_50 : Always (λ y older. y.reply ≡ Reply.Refused Refusal.OutOfLimits → ⊥) d.log
