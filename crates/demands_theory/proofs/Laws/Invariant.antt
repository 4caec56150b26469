-- The invariant of a run after the calls of a log.
use Rattle.std.specs.Prelude.{◌≡◌, ℕ, Option, Some, None}
use Rattle.run_window.specs.declared.Entry.{Entry}
use Rattle.run.specs.declared.Reply.{Reply}
use Rattle.run_checks.specs.declared.Refusal.{Refusal}
use Rattle.run_checks.specs.declared.Stop.{Stop}
use Rattle.demands_log.specs.Log.{Id, Log, Said, Always, Started, StoppedIn, StoppedBy}
use Rattle.demands_log.specs.Host.{Host, MildStop, Mild}
use Rattle.demands_theory.proofs.Laws.Machine.{World, Machine, Window, Finished, Waited}
use Rattle.demands_theory.proofs.Laws.Accounts.{Accounts}
use Rattle.demands_theory.proofs.Laws.Clock.{Clock}

abbrev pub MildHalt : Option Stop → Type 0
MildHalt None = Unit {0}
MildHalt (Some s) = MildStop s

abbrev pub Counted : Said → Log → Type 0
Counted y older = y.reply ≡ Reply.Refused Refusal.OutOfLimits → ⊥

abbrev pub MildAt : Said → Log → Type 0
MildAt y older = Mild y.reply

-- the latest answer is done or wait, each in its condition
pub record Latest (W : World) (word : W.Word) (log : Log) (ws : Window) : Type 0 where
  pub done_final : Finished log → W.Final word
  pub done_empty : Finished log → (i : ℕ) (e : Entry) → ws i e → ⊥
  pub wait_only : Waited log → W.Final word → (i : ℕ) × (e : Entry) × ws i e

pub record Invariant (W : World) (M : Machine) (psi slack : ℕ) (word : W.Word) (log : Log) (run : M.Run) : Type 0 where
  pub accounts : Accounts W psi slack word log (M.holds run)
  pub clock : M.halt run ≡ None → Clock psi slack (M.last run) log (M.holds run)
  pub halted : (s : Stop) → M.halt run ≡ Some s → StoppedIn log
  pub stopped : (s : Stop) → StoppedBy log s → M.halt run ≡ Some s
  pub numbers : Always Counted log
  pub latest : Latest W word log (M.holds run)
  -- C: the specified completions, of a word that may have grown since
  pub mild : (C : Id → ℕ) → ((x : Id) → Started log x → C x ≡ W.completion word x) → Host psi slack C log → Always MildAt log × MildHalt (M.halt run)
