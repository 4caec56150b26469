-- Each turn answers as the definition does of what is left.
use native.Mathlib.Omega.{arith}
use native.Mathlib.Nat.{sub-zero}
use mathlib.Core.Path.{sym, ◌∙◌}
use lib.ListN.{length-set}
use Rattle.std.proofs.lemmas.Result.{err_from_is_err_and}
use Rattle.plan_automaton.proofs.Loops.{moves_done, moves_refused, moves_next}
use borrow.Author.Rules.{rules}
use Rattle.plan_automaton.proofs.moves_loop.Goals as goal

pub loop-i-init : goal.loop-i-init
loop-i-init c = (search rules, search rules, search rules, search rules, rw sub-zero)

pub returns-in_err-t : goal.returns-in_err-t
returns-in_err-t c =
    let p = err_from_is_err_and c.from_residual.result c.from_residual.ensures.1 in
    let a = c.args in
    rw (p.1, p.2) (moves_refused a.events.count a.events.outcomes a.activities a.bytes.now a.states a.initial a.finals a.count c.loop-i.i c.loop-i.off c.loop-i.moves (omega arith) _ (sym c.move_at.ensures ∙ c.in_err-t.was) ∙ sym c.loop-i.invariant.4)

pub loop-i-preserved : goal.loop-i-preserved
loop-i-preserved c =
    let a = c.args in (
      omega arith,
      search rules,
      search rules,
      simp length-set c.loop-i.invariant.3,
      c.loop-i.invariant.4 ∙ moves_next a.events.count a.events.outcomes a.activities a.bytes.now a.states a.initial a.finals a.count c.loop-i.i c.loop-i.off c.loop-i.moves (omega arith) _ _ (sym c.move_at.ensures ∙ c.in_ok-t.was),
    )

pub returns : goal.returns
returns c =
    let a = c.args in
    moves_done a.events.count a.events.outcomes a.activities a.bytes.now a.states a.initial a.finals a.count c.loop-i.i c.loop-i.off c.loop-i.moves (omega arith) ∙ sym c.loop-i.invariant.4
