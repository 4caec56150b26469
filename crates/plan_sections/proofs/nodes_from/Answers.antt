-- Each turn answers as the definition does of what is left.
use native.Mathlib.Omega.{arith}
use Prim.Native.Nat.{◌+◌}
use mathlib.Core.Path.{sym, ◌∙◌}
use lib.ListN.{length-set}
use Rattle.std.proofs.lemmas.Result.{err_from_is_err_and}
use Rattle.plan_sections.proofs.Loops.{nodes_done, nodes_refused, nodes_next}
use borrow.Author.Rules.{rules}
use Rattle.plan_sections.proofs.nodes_from.Goals as goal

pub returns-in_err-node : goal.returns-in_err-node
returns-in_err-node c =
    let p = err_from_is_err_and c.from_residual.result c.from_residual.ensures.1 in
    let n = c.args.named in
    ((λ follow. rw (p.1, p.2) (nodes_refused n.peripherals n.resources n.events c.args.bytes.now follow c.args.size c.loop-n.n c.loop-n.off (c.args.first + c.loop-n.n) c.loop-n.all (omega arith) _ (sym c.node_at.ensures ∙ c.in_err-node.was) ∙ sym (c.loop-n.invariant.3 follow))), c.loop-n.invariant.2)

pub loop-n-preserved : goal.loop-n-preserved
loop-n-preserved c =
    let n = c.args.named in (
      omega arith,
      search rules,
      simp length-set c.loop-n.invariant.2,
      (λ follow. c.loop-n.invariant.3 follow ∙ nodes_next n.peripherals n.resources n.events c.args.bytes.now follow c.args.size c.loop-n.n c.loop-n.off (c.args.first + c.loop-n.n) c.loop-n.all (omega arith) _ _ (c.args.first + (c.loop-n.n + 1)) (omega arith) (sym c.node_at.ensures ∙ c.in_ok-node.was)),
    )

pub returns : goal.returns
returns c =
    let n = c.args.named in
    ((λ follow. nodes_done n.peripherals n.resources n.events c.args.bytes.now follow c.args.size c.loop-n.n c.loop-n.off (c.args.first + c.loop-n.n) c.loop-n.all (omega arith) ∙ sym (c.loop-n.invariant.3 follow)), c.loop-n.invariant.2)
