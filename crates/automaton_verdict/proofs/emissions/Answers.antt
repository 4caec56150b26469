use Rattle.std.specs.Prelude.{◌+◌, ◌-◌, ◌*◌, ◌<◌, drop}
use Rattle.std.proofs.Common.{ap, sym, ◌∙◌, arith}
use Rattle.std.proofs.lemmas.List.{get_or-take, get_or-drop, length-take}
use Rattle.plan.specs.declared.Node.{Node}
use Rattle.plan.specs.Plan.{past_node}
use Rattle.automaton_verdict.proofs.Counting.{counting_starts, counting_none, counting_one}
use Rattle.automaton_verdict.proofs.emissions.Goals.{in-Event, in_default}
use Rattle.automaton_verdict.proofs.emissions.Goals as goal

pub loop-k-init : goal.loop-k-init
loop-k-init c = counting_starts c.args.plan c.requires

pub loop-node-preserved : goal.loop-node-preserved
loop-node-preserved c =
    let p = c.args.plan in
    let k = c.loop-k.k in
    let n = c.loop-node.node-index in
    let m = 64 * k + c.from.result - 64 * k in
    let l = drop (64 * k) p.nodes in
    let here : n < m = omega (arith, length-take m l) in
    let node = ap (λ (x : Node). x.kind) (sym (get_or-drop (64 * k) p.nodes n past_node) ∙ sym (get_or-take m l n past_node here)) in
    elim c.match-node.branch [
      | in-Event w ↦ rw (w.em-is, w.from-in-Event.ensures) (counting_one p c.requires k (omega arith) n (omega arith) c.loop-node.em c.loop-node.invariant w.in-Event.e (node ∙ w.in-Event.is))
      | in_default w ↦ rw w.em-is (counting_none p c.requires k (omega arith) n (omega arith) c.loop-node.em c.loop-node.invariant (λ f e. w.in_default.not-Event f (sym node ∙ e)))
    ]
