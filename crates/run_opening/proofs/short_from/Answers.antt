use mathlib.Core.Path.{sym, ◌∙◌}
use Prim.Native.Nat.{◌*◌}
use native.Mathlib.Omega.{arith}
use Rattle.plan.specs.Plan.{size_of}
use Rattle.run_opening.proofs.Shortest.{short_starts, short_here, short_past, short_none, low_starts, low_here, low_past, low_none}
use Rattle.run_opening.proofs.short_from.Goals as goal

pub loop-a-init : goal.loop-a-init
loop-a-init c = low_starts c.args.plan c.args.slack c.args.plan.activities

pub loop-n-init : goal.loop-n-init
loop-n-init c = let a = c.loop-a.a in short_starts c.args.slack (64 * a) (size_of c.args.plan a) c.args.plan.nodes

pub returns-then-is_short : goal.returns-then-is_short
returns-then-is_short c =
    let l = c.loop-a in
    let k = c.loop-n in
    let f = short_here c.args.slack (64 * l.a) (size_of c.args.plan l.a) k.n c.args.plan.nodes (omega arith) (sym c.is_short.ensures ∙ c.if-is_short.true) in
    sym (l.invariant ∙ low_here c.args.plan c.args.slack c.args.plan.activities l.a (omega arith) (k.invariant ∙ f))

pub loop-n-preserved : goal.loop-n-preserved
loop-n-preserved c =
    let k = c.loop-n in
    k.invariant ∙ short_past c.args.slack (64 * c.loop-a.a) (size_of c.args.plan c.loop-a.a) k.n c.args.plan.nodes (omega arith) (sym c.is_short.ensures ∙ c.if-is_short.false)

pub loop-a-preserved : goal.loop-a-preserved
loop-a-preserved c =
    let l = c.loop-a in
    let k = c.loop-n in
    let f = short_none c.args.slack (64 * l.a) (size_of c.args.plan l.a) k.n c.args.plan.nodes (omega arith) in
    l.invariant ∙ low_past c.args.plan c.args.slack c.args.plan.activities l.a (omega arith) (k.invariant ∙ f)

pub returns : goal.returns
returns c =
    let l = c.loop-a in
    sym (l.invariant ∙ low_none c.args.plan c.args.slack c.args.plan.activities l.a (omega arith))
