-- `begin` meets its contract: the plan is judged, and its first line is put. Assumes nothing.
use native.Mathlib.Omega.{arith}
use Rattle.timetable_turns.proofs.Begins.{begins}
use Rattle.timetable_turns.proofs.begin.Goals as goal

pub returns : goal.returns
returns c =
    let s = c.args in
    let j = c.judge-judged in
    begins s.bytes.now (λ k. omega (arith, c.type_inv.bytes k)) _ _ j.result j.ensures _ _ _ c.at_first-progress.ensures c.is_err-closed.ensures.value c.first_line-put.ensures
