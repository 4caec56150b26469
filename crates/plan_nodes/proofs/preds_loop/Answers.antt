-- Each turn answers as the definition does of what is left.
use native.Mathlib.Omega.{arith}
use mathlib.Core.Path.{sym, ◌∙◌}
use lib.ListN.{length-set}
use Rattle.std.proofs.lemmas.Result.{err_from_is_err_and}
use Rattle.plan_nodes.proofs.Loops.{preds_done, preds_refused, preds_fall, preds_next}
use Rattle.plan_fields.proofs.Laws.Read.{byte_most}
use borrow.Author.Rules.{rules}
use Rattle.plan_nodes.proofs.preds_loop.Goals as goal

pub returns-in_err-x : goal.returns-in_err-x
returns-in_err-x c =
    let p = err_from_is_err_and c.from_residual.result c.from_residual.ensures.1 in
    rw (p.1, p.2) (preds_refused c.args.bytes.now c.args.size c.args.count c.loop-i.i c.loop-i.off c.loop-i.low c.loop-i.preds (omega arith) _ (sym c.name_at.ensures ∙ c.in_err-x.was) ∙ sym c.loop-i.invariant.3)

pub returns-then-x-low : goal.returns-then-x-low
returns-then-x-low c =
    rw c.at.ensures (preds_fall c.args.bytes.now c.args.size c.args.count c.loop-i.i c.loop-i.off c.loop-i.low c.loop-i.preds (omega arith) _ _ (sym c.name_at.ensures ∙ c.in_ok-x.was) c.if-x-low.true ∙ sym c.loop-i.invariant.3)

pub overflow_add-low : goal.overflow_add-low
overflow_add-low c = omega (arith, byte_most 0 _ _ _ _ _ _ (sym c.name_at.ensures ∙ c.in_ok-x.was))

pub loop-i-preserved : goal.loop-i-preserved
loop-i-preserved c = (
  omega arith,
  search rules,
  simp length-set c.loop-i.invariant.2,
  c.loop-i.invariant.3 ∙ preds_next c.args.bytes.now c.args.size c.args.count c.loop-i.i c.loop-i.off c.loop-i.low c.loop-i.preds (omega arith) _ _ (sym c.name_at.ensures ∙ c.in_ok-x.was) c.if-x-low.false,
)

pub returns : goal.returns
returns c = preds_done c.args.bytes.now c.args.size c.args.count c.loop-i.i c.loop-i.off c.loop-i.low c.loop-i.preds (omega arith) ∙ sym c.loop-i.invariant.3
