use mathlib.Core.Path.{ap, ◌∙◌}
use Prim.Native.Nat.{◌<◌}
use native.Mathlib.Nat.{sub-zero}
use native.Mathlib.Omega.{arith}
use Rattle.std.proofs.lemmas.List.{get_or-take, length-take}
use Rattle.times.specs.Times.{at}
use Rattle.times.proofs.Laws.Loops.{largest_on, largest_end}
use Rattle.times.proofs.starts.largest.Goals as goal

pub loop-m-init : goal.loop-m-init
loop-m-init c = rw sub-zero (omega arith)

pub loop-m-preserved : goal.loop-m-preserved
loop-m-preserved c =
    let l = c.loop-m in
    let low : l.m-index < c.args.x.count = omega (arith, length-take c.from.result c.args.x.preds) in
    let m = c.from-in-loop-m.ensures ∙ get_or-take c.from.result c.args.x.preds l.m-index 0 (omega arith) in
    let s = largest_on c.args.end.now c.args.x.preds l.m-index c.args.x.count low in
    omega (arith, c.max-best.ensures, ap (at c.args.end.now) m, l.invariant)

pub returns : goal.returns
returns c =
    let l = c.loop-m in
    let s = largest_end c.args.end.now c.args.x.preds l.m-index c.args.x.count (omega (arith, length-take c.from.result c.args.x.preds)) in
    omega (arith, l.invariant)
