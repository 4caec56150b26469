-- Each turn answers as the definition does of what is left.
use native.Mathlib.Omega.{arith}
use mathlib.Core.Path.{sym, ◌∙◌}
use lib.ListN.{length-set}
use Rattle.std.proofs.lemmas.Result.{err_from_is_err_and}
use Rattle.plan.specs.Fields.{found}
use Rattle.plan_sections.proofs.Loops.{numbers_done, numbers_refused, numbers_next}
use borrow.Author.Rules.{rules}
use Rattle.plan_sections.proofs.numbers.Goals as goal

pub returns-in_err-x : goal.returns-in_err-x
returns-in_err-x g c =
    let p = err_from_is_err_and c.from_residual.result c.from_residual.ensures.1 in
    rw (p.1, p.2) (numbers_refused c.args.low c.args.below c.args.wrong c.args.bytes.now (λ next values. found values next) c.args.count c.loop-i.i c.loop-i.off c.loop-i.values (omega arith) _ (sym c.byte_in.ensures ∙ c.in_err-x.was) ∙ sym c.loop-i.invariant.3)

pub loop-i-preserved : goal.loop-i-preserved
loop-i-preserved g c = (
  omega arith,
  search rules,
  simp length-set c.loop-i.invariant.2,
  c.loop-i.invariant.3 ∙ numbers_next c.args.low c.args.below c.args.wrong c.args.bytes.now (λ next values. found values next) c.args.count c.loop-i.i c.loop-i.off c.loop-i.values (omega arith) _ _ (sym c.byte_in.ensures ∙ c.in_ok-x.was),
)

pub returns : goal.returns
returns g c = numbers_done c.args.low c.args.below c.args.wrong c.args.bytes.now (λ next values. found values next) c.args.count c.loop-i.i c.loop-i.off c.loop-i.values (omega arith) ∙ sym c.loop-i.invariant.3
