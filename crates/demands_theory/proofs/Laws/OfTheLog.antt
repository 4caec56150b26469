-- Demand 3 of the word of the log, for the words of an accepted plan: from a run that loads by the log's outcomes.
use Rattle.std.specs.Prelude.{◌≡◌, List, [], ℕ}
use Rattle.plan.specs.declared.Plan.{Plan}
use Rattle.times_combined.specs.Combined.{Ident}
use Rattle.times_combined.proofs.Laws.Exec.{start_in, end_in}
use Rattle.times_combined.specs.Paths.{word_of, Lawful}
use Rattle.times_combined.specs.Times.{Timing}
use Rattle.times_combined.proofs.Laws.Theorems.{plan_times_equal}
use Rattle.run.specs.declared.Run.{Run}
use Rattle.run.specs.declared.Call.{Call}
use Rattle.run_checks.specs.declared.Stop.{Stop}
use Rattle.demands_log.specs.Log.{Id, Log, FailedIn, StoppedBy, Told}
use Rattle.demands_log.specs.Drive.{Driven, drive}
use Rattle.demands_theory.specs.Demand.{Demand3}
use Rattle.demands_theory.specs.TheWord.{state_after, whole_of, Takes, Stuck, TheWord}
use Rattle.demands_theory.specs.Loading.{PathBeyond, PathFull, Fits}
use Rattle.demands_theory.proofs.Laws.OfPlan.{world_of}
use Rattle.demands_theory.proofs.Laws.OfRun.{machine}
use Rattle.demands_theory.proofs.Laws.Works.{Works, Opened}
use Rattle.demands_theory.proofs.Laws.Theorem.{invariant_open, invariant_drive, claim}
use Rattle.demands_theory.proofs.Laws.Accounts.{always_map}
use Rattle.demands_theory.proofs.Laws.Invariant.{Invariant}
use Rattle.demands_theory.proofs.Laws.Longest.{longest}
use Rattle.demands_theory.proofs.Laws.TheWord.{told_once, takes_follows, on_the_way, one_word, tail_extends}

-- the transitions loaded are taken by the log, fit, and go as far as it does unless a loading has failed: then the next path fails
pub record ByTheLog (p : Plan) (available : ℕ → ℕ) (log : Log) (is : List ℕ) : Type 0 where
  pub taken : Takes p log is
  pub fits : Fits p available log is
  pub whole : (FailedIn log → ⊥) → Stuck p log is
  pub beyond : StoppedBy log Stop.Beyond → PathBeyond p available log is
  pub full : StoppedBy log Stop.Full → PathFull p available log is
  -- there is a word of the log
  pub word : (us : List ℕ) × TheWord p log us

module _ (p : Plan) (lawful : Lawful p) (available : ℕ → ℕ) (psi slack : ℕ) (Good : Log → List ℕ → Run → Type 0)
    (works : Works (world_of p available) machine psi slack Good) (by_the_log : (log : Log) (is : List ℕ) (run : Run) → Good log is run → Invariant (world_of p available) machine psi slack is log run → ByTheLog p available log is)
    (first : List ℕ) (opening : Run) (opened : Opened (world_of p available) machine Good first opening) (cs : List Call) where
  abbrev D : Driven
  D = drive [] opening cs

  -- what is loaded after the calls
  pub after : (loaded : List ℕ) × Good D.log loaded D.run × Invariant (world_of p available) machine psi slack loaded D.log D.run
  after = invariant_drive (world_of p available) psi slack Good works cs [] first opening opened.good (invariant_open (world_of p available) psi slack Good first opening opened)

  by : ByTheLog p available D.log after.0
  by = by_the_log D.log after.0 D.run after.1 after.2

  once : (x : Id) (o q : ℕ) → Told D.log x o → Told D.log x q → o ≡ q
  once = told_once D.log (always_map _ _ (λ y older h x q. (h x q).once) D.log after.2.accounts.reports)

  -- there is a word of the log, and only one
  pub the_word : (is : List ℕ) × TheWord p D.log is
  the_word = by.word

  pub one : (is us : List ℕ) → TheWord p D.log is → TheWord p D.log us → is ≡ us
  one is us v w = one_word p lawful D.log once is us v.taken v.whole w

  -- it has specified times
  pub times : (is : List ℕ) → TheWord p D.log is → (S : Ident → ℕ) × (C : Ident → ℕ) × Timing (whole_of p is) available S C
  times is w = (start_in available (word_of p is), end_in available (word_of p is), plan_times_equal p lawful available is (state_after p is) (takes_follows p D.log is w.taken))

  pub of_the_log : (is : List ℕ) → TheWord p D.log is → (S C : Ident → ℕ) → Timing (whole_of p is) available S C → Demand3 p psi slack available is S C D
  of_the_log is w S C t =
      let b = on_the_way p lawful D.log once after.0 is by.taken w in
      let whole : ((FailedIn D.log → ⊥) → after.0 ≡ is) = λ nf. one_word p lawful D.log once after.0 is by.taken (by.whole nf) w in
      claim p lawful psi slack available after.0 is D after.2 (takes_follows p D.log is w.taken) b (tail_extends p lawful D.log once available after.0 is b w.taken) whole
      by.fits (longest p lawful D.log once available after.0 is b w.taken whole by.beyond by.full) by.beyond by.full S C t
