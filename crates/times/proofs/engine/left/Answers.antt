use mathlib.Core.Path.{sym, ◌∙◌}
use Prim.Native.Nat.{◌<◌}
use native.Mathlib.Omega.{arith}
use lib.ListN.{get_or}
use Rattle.std.proofs.lemmas.List.{get_or-take, length-take}
use Rattle.plan.specs.Plan.{past_node, nodes_of}
use Rattle.times.proofs.Laws.Leaves.{leaves, leaves_end, leaves_action, leaves_claim, leaves_release, leaves_joined, leaves_dropped}
use Rattle.times.specs.Times.{at}
use Rattle.times.proofs.engine.left.Goals as goal
use Rattle.times.proofs.engine.left.Goals.{in-Action, in-Claim, in-Release, in-Event+then-length-lt8, in-Event+else-length-lt8}

pub loop-node-preserved : goal.loop-node-preserved
loop-node-preserved c =
    let l = c.loop-node in
    let n = c.from-n.result in
    let end = at c.args.t.end n in
    let kind = (get_or c.args.a.nodes n past_node).kind in
    let low : l.node-index < c.args.t.count = omega (arith, length-take c.from.result c.args.t.order) in
    let here = get_or-take c.from.result c.args.t.order l.node-index 0 (omega arith) in
    let inside : n < c.args.a.count = omega (arith, here, c.requires.within l.node-index low) in
    leaves c.args.a c.args.t l.node-index n l.h (c.from-n.ensures ∙ here) inside low l.invariant
    (elim c.match-x.branch [
      | in-Action w ↦ leaves_action n end kind l.h _ _ w.in-Action.is ∙ sym w.h-is
      | in-Claim w ↦ leaves_claim n end kind l.h _ w.in-Claim.is ∙ sym w.h-is
      | in-Release w ↦ leaves_release n end kind l.h _ _ w.in-Release.is w.from-in-Release.ensures ∙ sym w.h-is
      | in-Event+then-length-lt8 w ↦
          leaves_joined n end kind l.h _ _ _ _ _ w.in-Event.is w.from-i.ensures w.later.ensures w.from-then-length-lt8.ensures c.from-n.ensures w.if-length-lt8.true
          ∙ sym w.h-is
      | in-Event+else-length-lt8 w ↦ leaves_dropped n end kind l.h _ _ _ w.in-Event.is w.from-i.ensures w.later.ensures w.if-length-lt8.false ∙ sym w.h-is
    ])

pub returns : goal.returns
returns c = let l = c.loop-node in
    sym (l.invariant ∙ leaves_end (nodes_of c.args.a) c.args.t.end c.args.t.order l.node-index c.args.t.count l.h (omega (arith, length-take c.from.result c.args.t.order)))
