-- The verdict on a plan that was read, with the plan and without it, is one.
use Rattle.std.specs.Prelude.{◌≡◌, refl, Ok, Err}
use Rattle.std.proofs.Common.{ap, ◌∙◌}
use Rattle.plan.specs.declared.Plan.{Plan}
use Rattle.plan.specs.Verdict.{Verdict, faulty}
use Rattle.activity.specs.Number.{activities_verdict}
use Rattle.automaton.specs.Number.{automaton_verdict}
use Rattle.judge.specs.Judge.{on_verdict, refused_plan, accepted, judge_plan}
use Rattle.judge.specs.Inner.Judge.{plan_verdict}

module _ (p : Plan) where
  together : (v w : Verdict) → on_verdict v (on_verdict w (accepted p) refused_plan) refused_plan ≡ on_verdict (on_verdict v w faulty) (accepted p) refused_plan
  together (Ok u) w = refl
  together (Err e) w = refl

  pub by_verdict : (v : Verdict) → plan_verdict p ≡ v → judge_plan p ≡ on_verdict v (accepted p) refused_plan
  by_verdict v e = together (activities_verdict p) (automaton_verdict p) ∙ ap (λ (u : Verdict). on_verdict u (accepted p) refused_plan) e

  told : (v : Verdict) → (on_verdict v (accepted p) refused_plan).verdict ≡ v
  told (Ok u) = refl
  told (Err e) = refl

  pub verdict_alone : (judge_plan p).verdict ≡ plan_verdict p
  verdict_alone = ap (λ r. r.verdict) (by_verdict (plan_verdict p) refl) ∙ told (plan_verdict p)
