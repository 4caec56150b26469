use Rattle.basis.proofs.Laws.Bools.{clash}
use Rattle.basis.proofs.Laws.Tells.{told_true, told_false}
use Rattle.plan.specs.declared.Transition.{Transition}
use Rattle.plan.specs.Plan.{past_move}
use Rattle.automaton.proofs.Laws.Counts.{ready_takes}
use Rattle.automaton.proofs.Laws.Passes.{going_stays, going_stores}
use Rattle.automaton.proofs.Laws.Scan.{in_slice}
use Rattle.automaton_counts.proofs.Tools.{moved}
use Rattle.std.proofs.lemmas.List.{length-take}
use Rattle.std.proofs.Common.{get_or, take, ap, sym, ◌∙◌, arith}
use Rattle.automaton_counts.proofs.counting.pass.Goals.{then-not-x-from-via-then-not-x-from, then-not-x-from-via-else-not-x-from+then-x-to, then-not-x-from-via-else-not-x-from+else-x-to+then-not-ready}
use Rattle.automaton_counts.proofs.counting.pass.Goals as goal

pub loop-t-preserved-then-not-x-from : goal.loop-t-preserved-then-not-x-from
loop-t-preserved-then-not-x-from c =
    let l = c.loop-t in
    let t = in_slice c.args.a.now.moves c.from.result l.t-index (omega arith) in
    let from = c.from-in-loop-t.ensures ∙ ap (λ (u : Transition). u.from) t in
    let to = c.from-to.ensures ∙ ap (λ (u : Transition). u.to) t in
    going_stays _ _ c.requires.in_range _ _ _ _ _ l.invariant (λ h r. elim c.then-not-x-from.branch [
      | then-not-x-from-via-then-not-x-from w ↦ absurd (clash (sym h ∙ moved l.x.reached from w.if-not-x-from.true))
      | then-not-x-from-via-else-not-x-from+then-x-to w ↦ moved l.x.reached to w.if-x-to.true
      | then-not-x-from-via-else-not-x-from+else-x-to+then-not-ready w ↦ absurd (told_false (rw t at w.ready.ensures) w.if-not-ready.true r)
    ])

pub advance-requires-clause-by_index : goal.advance-requires-clause-by_index
advance-requires-clause-by_index c =
    let t = get_or (take c.from.result c.args.a.now.moves) c.loop-t.t-index past_move in
    λ e n. ready_takes c.loop-t.x.counts t.from t.input e (told_true c.ready.ensures c.if-not-ready.false)

pub loop-t-preserved : goal.loop-t-preserved
loop-t-preserved c =
    let l = c.loop-t in
    let t = in_slice c.args.a.now.moves c.from.result l.t-index (omega arith) in
    let from = c.from-in-loop-t.ensures ∙ ap (λ (u : Transition). u.from) t in
    let to = c.from-to.ensures ∙ ap (λ (u : Transition). u.to) t in
    rw to
    (going_stores _ _ c.requires.in_range _ _ _ _ _ l.invariant _ (omega (arith, length-take c.from.result c.args.a.now.moves)) (moved l.x.reached from c.if-not-x-from.false) (moved l.x.reached to c.if-x-to.false)
    (rw t at c.advance.ensures))
