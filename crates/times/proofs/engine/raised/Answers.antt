use mathlib.Core.Path.{sym, ◌∙◌}
use native.Mathlib.Nat.{sub-zero}
use native.Mathlib.Omega.{arith}
use Rattle.times.proofs.Laws.Loops.{raised_on, raised_end}
use Rattle.times.proofs.engine.raised.Goals as goal

pub loop-i-init : goal.loop-i-init
loop-i-init c = rw sub-zero

pub loop-i-preserved : goal.loop-i-preserved
loop-i-preserved c = let a = c.args in
    let l = c.loop-i in
    l.invariant ∙ raised_on a.c.0 l.available l.i a.count (omega arith) ∙ rw c.later.ensures

pub returns : goal.returns
returns c = let a = c.args in
    let l = c.loop-i in
    sym (l.invariant ∙ raised_end a.c.0 l.available l.i a.count (omega arith))
