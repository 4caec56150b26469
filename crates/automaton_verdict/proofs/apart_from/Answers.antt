use Rattle.std.proofs.Common.{sym, ◌∙◌, arith}
use Rattle.automaton_verdict.proofs.Tools.{apart_scans, scan-other, scan_good, scan_bad, scan_done}
use Rattle.automaton_verdict.proofs.apart_from.Goals.{else-t-s-via-then-t-s+else-not-apart, else-t-s-via-else-t-s}
use Rattle.automaton_verdict.proofs.apart_from.Goals as goal

pub returns-then-not-apart : goal.returns-then-not-apart
returns-then-not-apart c =
    let x = c.args in
    sym (c.loop-t.invariant ∙ scan_bad (apart_scans x.m x.s) x.moves.now c.loop-t.t-index (omega arith) c.if-t-s.true (sym c.apart.ensures ∙ c.if-not-apart.true))

pub loop-t-preserved : goal.loop-t-preserved
loop-t-preserved c =
    let x = c.args in
    c.loop-t.invariant ∙ elim c.else-t-s.branch [
      | else-t-s-via-then-t-s+else-not-apart w ↦ scan_good (apart_scans x.m x.s) x.moves.now c.loop-t.t-index (omega arith) w.if-t-s.true (sym w.apart.ensures ∙ w.if-not-apart.false)
      | else-t-s-via-else-t-s w ↦ scan-other (apart_scans x.m x.s) x.moves.now c.loop-t.t-index (omega arith) w.if-t-s.false
    ]

pub returns : goal.returns
returns c =
    let x = c.args in
    sym (c.loop-t.invariant ∙ scan_done (apart_scans x.m x.s) x.moves.now c.loop-t.t-index (omega arith))
