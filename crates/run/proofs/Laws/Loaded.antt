-- Loading of a run is loading of its plan, its progress and its window.
use Rattle.std.specs.Prelude.{◌≡◌, Bool, true, false, ℕ, zero, suc, ltb, length, Option, Some, None}
use Rattle.std.proofs.Math.Path.{refl}
use Rattle.std.proofs.Common.{sym, ◌∙◌, ap}
use Rattle.time.specs.declared.Clock.{Clock}
use Rattle.automaton.specs.Next.{next_of}
use Rattle.automaton.specs.declared.Next.{Next}
use Rattle.times.specs.declared.Progress.{Progress}
use Rattle.run_window.specs.Window.{vacancies}
use Rattle.run_path.specs.Path.{Path, path_from, longest_path}
use Rattle.run_outcomes.specs.Way.{way_on}
use Rattle.run_loading.specs.Loading as parts
use Rattle.run_loading.specs.declared.Loading as declared
use Rattle.run_loading.specs.declared.Failure.{Failure}
use Rattle.run.specs.declared.Run.{Run}
use Rattle.run.specs.declared.Answer.{Answer}
use Rattle.run.specs.declared.Reply.{Reply}
use Rattle.run_checks.specs.declared.Stop.{Stop}
use Rattle.run.specs.Calls.{answer, heard, stops, cleared, after_loading, learnt}
use Rattle.run.specs.Loading.{Loading, loading, load_path, load, on_way, on_loading, further, most_pending}
use Rattle.run.specs.Inner.Calls.{reply_after, halt_after}
use Rattle.run.specs.Inner.Effects.{loaded_as}

-- the run with what loading made of its progress and its window
abbrev pub within : Run → declared.Loading → Loading
within run l = loading l.failure (heard run run.last run.halt l.progress l.window)

module _ (run : Run) where
  by_path : (q : Path) (b c : Bool) → q.beyond ≡ b → ltb (vacancies run.window) (length q.entries) ≡ c → load_path run q ≡ within run (parts.load_path run.progress run.window q)
  by_path q true c e f = rw e
  by_path q false true e f = rw (e, f)
  by_path q false false e f = rw (e, f)

  pub load_parts : (next : Next) → load run next ≡ within run (parts.load run.plan next run.progress run.window)
  unfolding load parts.load
  load_parts next = by_path (path_from run.plan longest_path next run.progress) _ _ refl refl

pub further_parts : (k : ℕ) (run : Run) → further k run ≡ within run (parts.further run.plan k run.progress run.window)
unfolding further parts.further
further_parts zero run = refl
further_parts (suc k) run = by_way (further_parts k) (way_on run.plan.automaton run.progress (next_of run.plan.automaton run.progress.state))
  where
    then_on : ((r : Run) → further k r ≡ within r (parts.further r.plan k r.progress r.window)) → (l : declared.Loading) (f : Option Failure) → l.failure ≡ f → on_loading (within run l) (further k) ≡ within run (parts.on_loading l (parts.further run.plan k))
    then_on later l None e = rw e (later (within run l).run)
    then_on later l (Some Failure.Full) e = rw e
    then_on later l (Some Failure.Beyond) e = rw e

    by_way : ((r : Run) → further k r ≡ within r (parts.further r.plan k r.progress r.window)) → (n : Next) → on_way n (λ t. on_loading (load run (Next.Goes t)) (further k)) (loading None run) ≡ within run (on_way n (λ t. parts.on_loading (parts.load run.plan (Next.Goes t) run.progress run.window) (parts.further run.plan k)) (parts.loading None run.progress run.window))
    by_way later Next.Ended = refl
    by_way later (Next.Waits e) = refl
    by_way later (Next.Goes t) =
        let l = parts.load run.plan (Next.Goes t) run.progress run.window in
        ap (λ (x : Loading). on_loading x (further k)) (load_parts run (Next.Goes t)) ∙ then_on later l l.failure refl

-- ---- the answer to an outcome

-- it is taken, or the run keeps a stop
abbrev pub answer_by : Clock → Option Stop → Run → Answer
answer_by t None next = answer Reply.Taken next
answer_by t (Some s) next = stops next t s

-- the run with what was loaded
abbrev pub storing : Run → Clock → declared.Loading → Run
storing run t l = heard run t run.halt l.progress l.window

module _ (run : Run) (going : run.halt ≡ None) (t : Clock) (i : ℕ) (g : Progress) where
  by_failure : (l : declared.Loading) (f : Option Failure) → answer_by t (halt_after f) (storing run t l) ≡ after_loading f (heard run t (cleared run t i g).halt l.progress l.window)
  by_failure l None = rw going
  by_failure l (Some Failure.Full) = refl
  by_failure l (Some Failure.Beyond) = refl

  pub learnt_parts : (l : declared.Loading) → l ≡ parts.further run.plan most_pending g (cleared run t i g).window → (x : Option Stop) → x ≡ halt_after l.failure → answer_by t x (storing run t l) ≡ learnt (cleared run t i g)
  learnt_parts l e x q =
      ap (λ (y : Option Stop). answer_by t y (storing run t l)) q
      ∙ by_failure l l.failure
      ∙ ap (λ (y : declared.Loading). after_loading y.failure (heard run t (cleared run t i g).halt y.progress y.window)) e
      ∙ sym (ap (λ (y : Loading). after_loading y.failure y.run) (further_parts most_pending (cleared run t i g)))

  by_halt : (l : declared.Loading) (f : Option Failure) → answer_by t (halt_after f) (storing run t l) ≡ answer (reply_after f) (heard run t (halt_after f) l.progress l.window)
  by_halt l None = rw going
  by_halt l (Some Failure.Full) = refl
  by_halt l (Some Failure.Beyond) = refl

  pub loaded_as_lem : (l : declared.Loading) → l ≡ parts.further run.plan most_pending g (cleared run t i g).window → learnt (cleared run t i g) ≡ loaded_as run t l
  loaded_as_lem l e = sym (learnt_parts l e (halt_after l.failure) refl) ∙ by_halt l l.failure
