-- The verdict on a plan file: reading, then the verdict on the plan, which is handed on where it is accepted.
use mathlib.Core.Path.{sym, ◌∙◌}
use native.Mathlib.Omega.{arith}
use Rattle.std.specs.Prelude.{Ok}
use Rattle.judge.specs.Judge.{judge_of}
use Rattle.judge.proofs.Laws.Verdict.{by_verdict}
use Rattle.judge.proofs.Laws.Judge.{read_limits}
use Rattle.judge.proofs.judge.Goals as goal

pub plan_verdict-requires : goal.plan_verdict-requires
plan_verdict-requires c = read_limits c.args.bytes.now (λ k. omega (arith, c.type_inv.bytes k)) _ (sym c.read.ensures ∙ c.in-Ok.is)

pub returns-in-Err : goal.returns-in-Err
unfolding judge_of
returns-in-Err c = rw (← c.read.ensures, c.in-Err.is) c.refused_plan.ensures

pub returns-in-Err-plan_verdict : goal.returns-in-Err-plan_verdict
unfolding judge_of
returns-in-Err-plan_verdict c =
    rw (← c.read.ensures, c.in-Ok.is)
    (c.refused_plan-in-Err-plan_verdict.ensures ∙ sym (by_verdict c.in-Ok.plan _ (sym c.plan_verdict.ensures ∙ c.in-Err-plan_verdict.is)))

pub returns-in-Ok-plan_verdict : goal.returns-in-Ok-plan_verdict
unfolding judge_of
returns-in-Ok-plan_verdict c =
    rw (← c.read.ensures, c.in-Ok.is) (sym (by_verdict c.in-Ok.plan (Ok tt) (sym c.plan_verdict.ensures ∙ c.in-Ok-plan_verdict.is)))
