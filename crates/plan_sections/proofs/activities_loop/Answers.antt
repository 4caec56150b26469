-- Each turn answers as the definition does of what is left.
use native.Mathlib.Omega.{arith}
use native.Mathlib.Nat.{sub-zero}
use mathlib.Core.Path.{sym, ap, ◌∙◌}
use Prim.Native.Nat.{ℕ}
use Rattle.plan.specs.Fields.{found}
use Rattle.plan.specs.declared.fields.Activities.{Activities}
use lib.ListN.{length-set}
use Rattle.std.proofs.lemmas.Result.{err_from_is_err_and}
use Rattle.plan_fields.proofs.Laws.Read.{byte_most}
use Rattle.plan_sections.proofs.Loops.{activities_done, activities_refused, activities_stopped, activities_next}
use borrow.Author.Rules.{rules}
use Rattle.plan_sections.proofs.activities_loop.Goals as goal

pub loop-a-init : goal.loop-a-init
loop-a-init c = (search rules, search rules, search rules, search rules, search rules, rw sub-zero)

pub returns-in_err-size : goal.returns-in_err-size
returns-in_err-size c =
    let p = err_from_is_err_and c.from_residual.result c.from_residual.ensures.1 in
    let n = c.args.named in
    rw (p.1, p.2) (activities_refused n.peripherals n.resources n.events c.args.bytes.now c.args.count c.loop-a.a c.loop-a.off c.loop-a.read.sizes c.loop-a.read.nodes (omega arith) _ (sym c.count_at.ensures ∙ c.in_err-size.was) ∙ sym c.loop-a.invariant.5)

pub nodes_from-requires : goal.nodes_from-requires
nodes_from-requires c = let m = byte_most 1 65 _ _ _ _ _ (sym c.count_at.ensures ∙ c.in_ok-size.was) in (omega arith, search rules)

pub returns-in_err-off : goal.returns-in_err-off
returns-in_err-off c =
    let p = err_from_is_err_and c.from_residual-in_err-off.result c.from_residual-in_err-off.ensures.1 in
    let n = c.args.named in
    rw (p.1, p.2) (activities_stopped n.peripherals n.resources n.events c.args.bytes.now c.args.count c.loop-a.a c.loop-a.off c.loop-a.read.sizes c.loop-a.read.nodes (omega arith) _ _ (sym c.count_at.ensures ∙ c.in_ok-size.was) _ _ c.nodes_from.ensures.0 _ c.in_err-off.was ∙ sym c.loop-a.invariant.5)

pub loop-a-preserved : goal.loop-a-preserved
loop-a-preserved c =
    let n = c.args.named in (
      omega arith,
      search rules,
      search rules,
      simp length-set c.loop-a.invariant.3,
      c.nodes_from.ensures.1,
      c.loop-a.invariant.5 ∙ activities_next n.peripherals n.resources n.events c.args.bytes.now c.args.count c.loop-a.a c.loop-a.off c.loop-a.read.sizes c.loop-a.read.nodes (omega arith) _ _ (sym c.count_at.ensures ∙ c.in_ok-size.was) _ _ c.nodes_from.ensures.0 _ c.in_ok-off.was,
    )

pub returns : goal.returns
returns c =
    let n = c.args.named in
    let r = c.loop-a.read in
    ap (λ (k : ℕ). found {A = Activities} (record { count = k; sizes = r.sizes; nodes = r.nodes }) c.loop-a.off) c.loop-a.invariant.2
    ∙ activities_done n.peripherals n.resources n.events c.args.bytes.now c.args.count c.loop-a.a c.loop-a.off r.sizes r.nodes (omega arith)
    ∙ sym c.loop-a.invariant.5
