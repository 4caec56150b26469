-- `opened_begins`: an accepted opening has loaded the first path. `plan_kept`: its run keeps the plan that its bytes hold, Ψ and the
-- slack; an answer makes its reading the last one.
use Rattle.std.specs.Prelude.{◌≡◌, ◌||◌, List, ℕ, ltb, eqb, length, Option, Some, None, Ok, Err}
use Rattle.std.proofs.Math.Path.{refl}
use Rattle.std.proofs.Common.{sym, subst, arith}
use Rattle.basis.proofs.Laws.Bools.{by_cond}
use Rattle.time.specs.Time.{horizon}
use Rattle.time.specs.declared.Clock.{Clock}
use Rattle.plan.specs.declared.Plan.{Plan}
use Rattle.plan.specs.Verdict.{Verdict}
use Rattle.judge.specs.Judge.{judge_of}
use Rattle.automaton.specs.Next.{next_of}
use Rattle.automaton.specs.declared.Next.{Next}
use Rattle.run_window.specs.Window.{vacancies}
use Rattle.run_path.specs.Path.{Path, path_from, longest_path}
use Rattle.run_opening.specs.Short.{on_short, short_from}
use Rattle.run_opening.specs.Given.{any_above, at_first, availabilities}
use Rattle.run.specs.declared.Run.{Run}
use Rattle.run.specs.declared.Opening.{Opening}
use Rattle.run.specs.declared.Opened.{Opened}
use Rattle.run.specs.declared.Unopened.{Unopened}
use Rattle.run.specs.Loading.{Loading}
use Rattle.run.specs.Limits.{slack_in_limits}
use Rattle.run.specs.Loading.{load, load_path}
use Rattle.run.specs.Opening.{open_of, open_judged, open_plan, unopened, begin, first_loaded, fresh}
use Rattle.demands_log.specs.Kept.{Keeps}

-- a run that is opened with them
pub record Opens (p : Plan) (psi : Clock) (slack : ℕ) (run : Run) : Type 0 where
  pub keeps : Keeps p psi slack run
  pub last : run.last.0 ≡ 0
  pub going : run.halt ≡ None

abbrev Kept : Plan → Clock → ℕ → Opening → Run → Type 0
Kept p psi slack Opening.Opened run = Opens p psi slack run
Kept p psi slack (Opening.Refused u) run = Unit {0}

record KeptOf (p : Plan) (psi : Clock) (slack : ℕ) (o : Opened) : Type 0 where
  kept : Kept p psi slack o.opening o.run

record KeptBy (p : Plan) (psi : Clock) (slack : ℕ) (l : Loading) : Type 0 where
  kept : KeptOf p psi slack (first_loaded l)

module _ (p : Plan) (psi : Clock) (slack : ℕ) where
  kept_path : (run : Run) (q : Path) → Opens p psi slack run → KeptBy p psi slack (load_path run q)
  kept_path run q k =
      by_cond (KeptBy p psi slack) q.beyond _ _ (record { kept = record { kept = tt } })
      (by_cond (KeptBy p psi slack) (ltb (vacancies run.window) (length q.entries)) _ _ (record { kept = record { kept = tt } })
      (record { kept = record { kept = record { keeps = record { same_plan = k.keeps.same_plan; same_psi = k.keeps.same_psi; same_slack = k.keeps.same_slack }; last = k.last; going = k.going } } }))

  kept_load : (run : Run) (next : Next) → Opens p psi slack run → KeptBy p psi slack (load run next)
  unfolding load
  kept_load run next k = kept_path run (path_from run.plan longest_path next run.progress) k

-- ---- an opening that is accepted has loaded the first path

-- the run before its first path
abbrev pub unbegun : Plan → Clock → ℕ → List ℕ → Run
unbegun p psi slack ts = fresh p psi slack (at_first (availabilities ts) p.automaton.initial)

record Begins (p : Plan) (psi : Clock) (slack : ℕ) (ts : List ℕ) (o : Opened) : Type 0 where
  begins : o.opening ≡ Opening.Opened → o ≡ begin (unbegun p psi slack ts)

module _ (p : Plan) (psi : Clock) (slack : ℕ) (ts : List ℕ) where
  refused : (u : Unopened) → Begins p psi slack ts (unopened u)
  refused u = record { begins = λ e. absurd (let z : ◌≡◌ {A = ℕ} 0 1 = cc in omega arith) }

  begins_short : (r : Option ℕ) (f : ℕ → Opened) (z : Opened) → ((a : ℕ) → Begins p psi slack ts (f a)) → Begins p psi slack ts z → Begins p psi slack ts (on_short r f z)
  begins_short None f z h q = q
  begins_short (Some a) f z h q = h a

  begins_plan : Begins p psi slack ts (open_plan p psi slack ts)
  unfolding open_plan
  begins_plan =
      by_cond (Begins p psi slack ts) (eqb (length ts) p.resources) _ _
      (by_cond (Begins p psi slack ts) (ltb horizon psi.0 || any_above ts) _ _ (refused Unopened.Time)
      (by_cond (Begins p psi slack ts) (slack_in_limits slack) _ _
      (begins_short (short_from p slack 0 p.activities) _ _ (λ a. refused (Unopened.Short a)) (record { begins = λ e. refl }))
      (refused Unopened.Slack)))
      (refused Unopened.Availabilities)

  begins_judged : (v : Verdict) → Begins p psi slack ts (open_judged v p psi slack ts)
  begins_judged (Ok u) = begins_plan
  begins_judged (Err e) = refused (Unopened.Plan e.fault e.place)

module _ (bytes : List ℕ) (psi : Clock) (slack : ℕ) (ts : List ℕ) (opened : (open_of bytes psi slack ts).opening ≡ Opening.Opened) where
  pub opened_begins : open_of bytes psi slack ts ≡ begin (unbegun (judge_of bytes).plan psi slack ts)
  unfolding open_of
  opened_begins = (begins_judged (judge_of bytes).plan psi slack ts (judge_of bytes).verdict).begins opened

  -- "the run keeps it"
  pub plan_kept : Opens (judge_of bytes).plan psi slack (open_of bytes psi slack ts).run
  plan_kept = subst (λ (o : Opening). Kept (judge_of bytes).plan psi slack o (open_of bytes psi slack ts).run) opened first.kept
    where
      p : Plan
      p = (judge_of bytes).plan

      first : KeptOf p psi slack (open_of bytes psi slack ts)
      first =
          subst (KeptOf p psi slack) (sym opened_begins)
          (kept_load p psi slack (unbegun p psi slack ts) (next_of p.automaton p.automaton.initial) (record { keeps = record { same_plan = refl; same_psi = refl; same_slack = refl }; last = refl; going = refl })).kept
