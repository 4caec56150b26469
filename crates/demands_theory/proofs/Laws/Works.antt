-- What the run must supply. `Good log word run` is the run's own: what it knows of itself after the calls of the log. It is in
-- limits and keeps the opening's Ψ, slack and plan; the word is taken by the outcomes that the log reports, as far as it goes
-- unless a loading has failed; and the run's state of loading is the word's.
use Rattle.std.specs.Prelude.{◌≡◌, false, [], ◌∷◌, ℕ, None}
use Rattle.run_window.specs.Window.{is_started}
use Rattle.run_window.specs.declared.Entry.{Entry}
use Rattle.run.specs.declared.Call.{Call}
use Rattle.demands_log.specs.Log.{Id, Log, said}
use Rattle.demands_theory.proofs.Laws.Machine.{World, Machine, Held}
use Rattle.demands_theory.proofs.Laws.Way.{Outlasts, InOrder, Agrees, Way}
use Rattle.demands_theory.proofs.Laws.Invariant.{Invariant}
use Rattle.demands_theory.specs.Nodes.{id_of}

pub record Works (W : World) (M : Machine) (psi slack : ℕ) (Good : Log → W.Word → M.Run → Type 0) : Type 0 where
  -- a place holds one entry
  pub one : (run : M.Run) (i : ℕ) (e f : Entry) → M.holds run i e → M.holds run i f → e ≡ f
  pub long : (log : Log) (word : W.Word) (run : M.Run) → Good log word run → Outlasts W slack word
  pub orders : (log : Log) (word : W.Word) (run : M.Run) → Good log word run → InOrder W word
  -- a call goes one of the eight ways, and the run keeps what it knows; it may use the invariant
  pub ways : (log : Log) (word : W.Word) (run : M.Run) → Good log word run → Invariant W M psi slack word log run → (c : Call)
      → (later : W.Word) × Way W M psi slack run (M.next run c) word later c (M.reply run c) × Good (said c (M.reply run c) ∷ log) later (M.next run c)

-- a run from an accepted opening, with the first path
pub record Opened (W : World) (M : Machine) (Good : Log → W.Word → M.Run → Type 0) (word : W.Word) (run : M.Run) : Type 0 where
  pub good : Good [] word run
  pub going : M.halt run ≡ None
  pub agree : (i : ℕ) (e : Entry) → M.holds run i e → Agrees W word e
  pub unstarted : (i : ℕ) (e : Entry) → M.holds run i e → is_started e.phase ≡ false
  pub distinct : (i j : ℕ) (e f : Entry) → M.holds run i e → M.holds run j f → id_of e ≡ id_of f → i ≡ j
  pub all : (x : Id) → W.Node word x → Held (M.holds run) x
