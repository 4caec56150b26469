use Rattle.std.specs.Prelude.{◌+◌, List, get_or, take}
use Rattle.std.proofs.Common.{ap, sym, ◌∙◌, arith}
use Rattle.std.proofs.lemmas.List.{length-take}
use Rattle.plan.specs.declared.Transition.{Transition}
use Rattle.plan.specs.Plan.{past_move}
use Rattle.automaton.specs.Number.{apart_from, branches_in}
use Rattle.automaton.proofs.Laws.Scan.{used, to_end}
use Rattle.automaton_verdict.proofs.Tools.{branches_scans, scan-other, scan_good, scan_bad, scan_done}
use Rattle.automaton_verdict.proofs.branches.Goals.{else-t-s-via-then-t-s+else-not-apart_from, else-t-s-via-else-t-s}
use Rattle.automaton_verdict.proofs.branches.Goals as goal

pub loop-i-init : goal.loop-i-init
loop-i-init c =
    let x = c.args in
    ap (λ (ts : List Transition). branches_in ts x.s) (used x.a.now c.from.result c.from.ensures (omega (arith, length-take c.from.result x.a.now.moves)))

pub returns-then-not-apart_from : goal.returns-then-not-apart_from
returns-then-not-apart_from c =
    let x = c.args in
    let l = take c.from.result x.a.now.moves in
    let i = c.loop-i.i in
    sym (c.loop-i.invariant ∙ scan_bad (branches_scans x.s) (take c.from.result x.a.now.moves) c.loop-i.i (omega arith) c.if-t-s.true (ap (λ (ts : List Transition). apart_from (get_or l i past_move).input ts x.s) (sym (to_end l (i + 1))) ∙ sym c.apart_from.ensures ∙ c.if-not-apart_from.true))

pub loop-i-preserved : goal.loop-i-preserved
loop-i-preserved c =
    let x = c.args in
    let l = take c.from.result x.a.now.moves in
    let i = c.loop-i.i in
    c.loop-i.invariant ∙ elim c.else-t-s.branch [
      | else-t-s-via-then-t-s+else-not-apart_from w ↦ scan_good (branches_scans x.s) l c.loop-i.i (omega arith) w.if-t-s.true (ap (λ (ts : List Transition). apart_from (get_or l i past_move).input ts x.s) (sym (to_end l (i + 1))) ∙ sym w.apart_from.ensures ∙ w.if-not-apart_from.false)
      | else-t-s-via-else-t-s w ↦ scan-other (branches_scans x.s) l c.loop-i.i (omega arith) w.if-t-s.false
    ]

pub returns : goal.returns
returns c =
    let x = c.args in
    sym (c.loop-i.invariant ∙ scan_done (branches_scans x.s) (take c.from.result x.a.now.moves) c.loop-i.i (omega arith))
