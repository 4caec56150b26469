-- 44 and 43 of an opening: the tests of the first path tell them, over the words of the plan and their specified times.
use Rattle.std.specs.Prelude.{◌≡◌, false, List, ℕ, ◌≤◌, ◌<◌, ltb, length, get_or, replicate, Ok}
use Rattle.std.proofs.Common.{arith}
use Rattle.std.proofs.Math.Decide.{dec_lt}
use Rattle.std.proofs.Math.ListN.{get_or-eq_default}
use Rattle.basis.specs.Inner.Tells.{Tells}
use Rattle.time.specs.Time.{horizon}
use Rattle.time.specs.declared.Clock.{Clock}
use Rattle.plan.specs.Plan.{activity_of}
use Rattle.plan.specs.declared.Plan.{Plan}
use Rattle.activity.specs.Rules.{node}
use Rattle.automaton.specs.Next.{next_of}
use Rattle.times.specs.declared.Progress.{Progress}
use Rattle.run_window.specs.Window.{vacant, vacancies}
use Rattle.run_path.specs.Path.{Path, path_from, longest_path}
use Rattle.run_opening.specs.Given.{at_first, availabilities}
use Rattle.judge.specs.Judge.{judge_of}
use Rattle.demands_theory.specs.Loading.{FirstBeyond, FirstMany}
use Rattle.demands_theory.proofs.Laws.Along.{lawful}
use Rattle.demands_run.proofs.Laws.Stands.{Accepted}
use Rattle.demands_run.proofs.Laws.Opening.{Judged, tells_first, tells_many}
use Rattle.demands_run.proofs.Laws.EngineHolds.{engine_laws}
use Rattle.demands_run.proofs.Laws.AcceptedHolds.{accepted_laws}
use Rattle.demands.specs.Accepted.{Bytes}
use Rattle.demands.specs.Openings.{TimeAbove, plan_of, Lasting}
use Rattle.demands.proofs.Laws.OpeningTests.{tells_slack, is_true, outside}
use Rattle.demands.proofs.Laws.VerdictsHold.{verdict}

-- where the behaviour stands at its opening, and the first path from there
abbrev pub at_opening : Plan → List ℕ → Progress
at_opening p ts = at_first (availabilities ts) p.automaton.initial

abbrev pub first_path : Plan → List ℕ → Path
first_path p ts = path_from p longest_path (next_of p.automaton p.automaton.initial) (at_opening p ts)

module _ (bytes : List ℕ) (are : Bytes bytes) (psi : Clock) (slack : ℕ) (ts : List ℕ) (l : Lasting bytes psi slack ts) where
  judged : Judged (plan_of bytes)
  judged = accepted_laws bytes are (plan_of bytes) (λ i. record { verdict = (verdict bytes (Ok tt) are).1 l.earlier.earlier.earlier.accepted i; plan = (judge_of bytes).plan })

  at_most : (t : ℕ) → (horizon < t → ⊥) → t ≤ horizon
  at_most t n = omega arith

  given : Accepted (plan_of bytes) psi slack
  given = record {
    lawful = lawful (plan_of bytes) judged.file judged.activities judged.automaton.first;
    automaton = judged.automaton;
    start = at_most psi.0 (λ h. l.earlier.earlier.none (TimeAbove.start h));
    host = is_true (tells_slack slack) (λ n. l.earlier.none (outside slack n));
    long = λ a low n m w. (let h : ((node (activity_of (plan_of bytes) a) n).duration ≤ slack → ⊥) = λ d. l.none a (record { within = low; number = n; short = record { within = m; working = w; short = d } }) in omega arith);
  }

  early : (r : ℕ) → get_or ts r 0 ≤ horizon
  early r = go (dec_lt r (length ts))
    where
      go : Dec (r < length ts) → get_or ts r 0 ≤ horizon
      go (yes m) = at_most (get_or ts r 0) (λ h. l.earlier.earlier.none (TimeAbove.availability r m h))
      go (no n) = let u = get_or-eq_default ts 0 {n = r} (omega arith) in omega arith

  enough : length ts ≡ (plan_of bytes).resources
  enough = l.earlier.earlier.earlier.each

  pub tells_44 : Tells (first_path (plan_of bytes) ts).beyond (FirstBeyond (plan_of bytes) (λ r. get_or ts r 0))
  tells_44 = tells_first engine_laws (plan_of bytes) psi slack given ts enough early

  pub tells_43 : (first_path (plan_of bytes) ts).beyond ≡ false → Tells (ltb (vacancies (replicate 512 vacant)) (length (first_path (plan_of bytes) ts).entries)) (FirstMany (plan_of bytes))
  tells_43 = tells_many engine_laws (plan_of bytes) psi slack given ts enough early
