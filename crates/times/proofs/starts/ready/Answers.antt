use mathlib.Core.Path.{sym, ap, ◌∙◌}
use native.Mathlib.Nat.{sub-zero}
use native.Mathlib.Omega.{arith}
use Rattle.std.proofs.lemmas.List.{get_or-take, length-take}
use Rattle.basis.specs.Tests.{flag}
use Rattle.times.proofs.Laws.Loops.{ready_not, ready_on, ready_end}
use Rattle.times.proofs.starts.ready.Goals as goal

pub loop-m-init : goal.loop-m-init
loop-m-init c = rw sub-zero

pub returns-then-not-done-from : goal.returns-then-not-done-from
returns-then-not-done-from c =
    let l = c.loop-m in
    let m = c.from-in-loop-m.ensures ∙ get_or-take c.from.result c.args.x.preds l.m-index 0 (omega (arith, length-take c.from.result c.args.x.preds)) in
    sym (l.invariant ∙ ready_not c.args.done.now c.args.x.preds l.m-index c.args.x.count (omega (arith, length-take c.from.result c.args.x.preds)) (ap (flag c.args.done.now) (sym m) ∙ c.if-not-done-from.true))

pub loop-m-preserved : goal.loop-m-preserved
loop-m-preserved c =
    let l = c.loop-m in
    let m = c.from-in-loop-m.ensures ∙ get_or-take c.from.result c.args.x.preds l.m-index 0 (omega (arith, length-take c.from.result c.args.x.preds)) in
    l.invariant ∙ ready_on c.args.done.now c.args.x.preds l.m-index c.args.x.count (omega (arith, length-take c.from.result c.args.x.preds)) (ap (flag c.args.done.now) (sym m) ∙ c.if-not-done-from.false)

pub returns : goal.returns
returns c =
    let l = c.loop-m in
    sym (l.invariant ∙ ready_end c.args.done.now c.args.x.preds l.m-index c.args.x.count (omega (arith, length-take c.from.result c.args.x.preds)))
