-- An accepted file passes reading, the activities and the automaton, and a file that passes them is accepted.
use Rattle.std.specs.Prelude.{◌≡◌, refl, Result, Ok, Err, List, ◌↔◌, ℕ, ◌<◌, get_or}
use Rattle.std.proofs.Common.{sym, ◌∙◌, subst}
use Rattle.std.proofs.Math.Path.{ap}
use Rattle.plan.specs.Limits.{InLimits}
use Rattle.plan_file.proofs.Laws.Accepted as R
use Rattle.plan.specs.declared.Fault.{Fault}
use Rattle.plan.specs.declared.FaultAt.{FaultAt}
use Rattle.plan.specs.declared.Plan.{Plan}
use Rattle.plan.specs.Verdict.{Verdict}
use Rattle.plan.specs.declared.PlanRead.{PlanRead}
use Rattle.plan.specs.Reading.{read_plan}
use Rattle.activity.specs.Number.{activities_verdict}
use Rattle.automaton.specs.Number.{automaton_verdict}
use Rattle.judge.specs.Judge.{on_verdict, on_read, accepted, refused_plan, judge_plan, judge_of}

pub record Passes (bytes : List ℕ) (p : Plan) : Type 0 where
  pub read : read_plan bytes ≡ Ok p
  pub activities : activities_verdict p ≡ Ok tt
  pub automaton : automaton_verdict p ≡ Ok tt

abbrev IsAccepted : Verdict → Type 0
IsAccepted (Ok u) = Unit {0}
IsAccepted (Err e) = ⊥

never : (f : Fault) (place : ℕ) (p : Plan) → refused_plan f place ≡ accepted p → ⊥
never f place p e = subst IsAccepted (sym (ap (λ (r : PlanRead). r.verdict) e)) tt

module _ (p : Plan) where
  through_automaton : (q : Plan) (v : Verdict) → on_verdict v (accepted q) refused_plan ≡ accepted p → (v ≡ Ok tt) × (q ≡ p)
  through_automaton q (Ok u) e = (refl, ap (λ (r : PlanRead). r.plan) e)
  through_automaton q (Err x) e = absurd (never x.fault x.place p e)

  through_activities : (x : PlanRead) (v : Verdict) → on_verdict v x refused_plan ≡ accepted p → (v ≡ Ok tt) × (x ≡ accepted p)
  through_activities x (Ok u) e = (refl, e)
  through_activities x (Err r) e = absurd (never r.fault r.place p e)

  through : (q : Plan) → judge_plan q ≡ accepted p → (activities_verdict q ≡ Ok tt) × (automaton_verdict q ≡ Ok tt) × (q ≡ p)
  through q e =
      let b = through_activities (on_verdict (automaton_verdict q) (accepted q) refused_plan) (activities_verdict q) e in
      let c = through_automaton q (automaton_verdict q) b.1 in
      (b.0, c.0, c.1)

  through_reading : (bytes : List ℕ) (r : Result Plan FaultAt) → read_plan bytes ≡ r → on_read r judge_plan refused_plan ≡ accepted p → Passes bytes p
  through_reading bytes (Ok q) is e =
      let c = through q e in
      record {
        read = is ∙ ap (λ (x : Plan). Ok x) c.2;
        activities = ap activities_verdict (sym c.2) ∙ c.0;
        automaton = ap automaton_verdict (sym c.2) ∙ c.1;
      }
  through_reading bytes (Err f) is e = absurd (never f.fault f.place p e)

  pub passed : (bytes : List ℕ) → judge_of bytes ≡ accepted p → Passes bytes p
  unfolding judge_of
  passed bytes e = through_reading bytes (read_plan bytes) refl e

  pub passing : (bytes : List ℕ) → Passes bytes p → judge_of bytes ≡ accepted p
  unfolding judge_of
  passing bytes h = rw (h.read, h.activities, h.automaton)

  pub judge_iff : (bytes : List ℕ) → (judge_of bytes ≡ accepted p) ↔ Passes bytes p
  judge_iff bytes = (passed bytes, passing bytes)

-- a plan that was read is within the limits
pub read_limits : (b : List ℕ) → ((k : ℕ) → get_or b k 0 < 256) → (p : Plan) → read_plan b ≡ Ok p → InLimits p
read_limits b bytes p e = (R.accepted_rules b bytes p e).limits
