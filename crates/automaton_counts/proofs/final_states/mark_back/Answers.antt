use Rattle.basis.proofs.Laws.Bools.{clash}
use Rattle.plan.specs.declared.Transition.{Transition}
use Rattle.automaton.proofs.Laws.Passes.{back_stay, back_store}
use Rattle.automaton.proofs.Laws.Scan.{in_slice}
use Rattle.automaton_counts.proofs.Tools.{moved}
use Rattle.std.proofs.lemmas.List.{length-take}
use Rattle.std.proofs.Common.{ap, sym, ◌∙◌, arith}
use Rattle.automaton_counts.proofs.final_states.mark_back.Goals.{then-not-done-from+then-done-from, else-not-done-from, else-not-done-from-via-then-not-done-from+else-done-from, else-not-done-from-via-else-not-done-from}
use Rattle.automaton_counts.proofs.final_states.mark_back.Goals as goal

pub loop-t-preserved : goal.loop-t-preserved
loop-t-preserved c =
    let l = c.loop-t in
    let t = in_slice c.args.a.now.moves c.from.result l.t-index (omega arith) in
    let from = c.from-from.ensures ∙ ap (λ (u : Transition). u.from) t in
    elim c.if-not-done-from.branch [
      | then-not-done-from+then-done-from w ↦
          let to = w.from-then-not-done-from.ensures ∙ ap (λ (u : Transition). u.to) t in
          rw (w.done-is, w.changed-is, from)
          (back_store _ c.requires.in_range _ _ _ _ l.invariant (omega (arith, length-take c.from.result c.args.a.now.moves)) (moved l.done from w.if-not-done-from.true) (moved l.done to w.if-done-from.true))
      | else-not-done-from w ↦ rw (w.done-is, w.changed-is) (back_stay _ c.requires.in_range _ _ _ _ l.invariant (λ h. elim w.else-not-done-from.branch [
        | else-not-done-from-via-then-not-done-from+else-done-from v ↦
            absurd (clash (sym h ∙ moved l.done (v.from-then-not-done-from.ensures ∙ ap (λ (u : Transition). u.to) t) v.if-done-from.false))
        | else-not-done-from-via-else-not-done-from v ↦ moved l.done from v.if-not-done-from.false
      ]))
    ]
