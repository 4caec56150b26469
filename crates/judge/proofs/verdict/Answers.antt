-- The verdict alone is the verdict of the plan file's judgement.
use mathlib.Core.Path.{sym, ◌∙◌}
use native.Mathlib.Omega.{arith}
use Rattle.std.proofs.lemmas.Result.{err_from_is_err_and}
use Rattle.judge.specs.Judge.{judge_of}
use Rattle.judge.proofs.Laws.Verdict.{verdict_alone}
use Rattle.judge.proofs.Laws.Judge.{read_limits}
use Rattle.judge.proofs.verdict.Goals as goal

pub plan_verdict-requires : goal.plan_verdict-requires
plan_verdict-requires c = read_limits c.args.bytes.now (λ k. omega (arith, c.type_inv.bytes k)) _ (sym c.read.ensures ∙ c.in_ok-plan.was)

pub returns-in_err-plan : goal.returns-in_err-plan
unfolding judge_of
returns-in_err-plan c =
    let p = err_from_is_err_and c.from_residual.result c.from_residual.ensures.1 in
    rw (p.1, p.2, ← c.read.ensures, c.in_err-plan.was)

pub returns : goal.returns
unfolding judge_of
returns c = rw (← c.read.ensures, c.in_ok-plan.was) (c.plan_verdict.ensures ∙ sym (verdict_alone _))
