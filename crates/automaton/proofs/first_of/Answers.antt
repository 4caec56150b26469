use Rattle.std.specs.Prelude.{◌≡◌, List, length, take}
use Rattle.std.proofs.Common.{ap, sym, ◌∙◌, arith}
use Rattle.basis.proofs.Laws.Lists.{unmapped}
use Rattle.plan.specs.declared.Transition.{Transition}
use Rattle.automaton.specs.Next.{ways_from, on_input, first_by}
use Rattle.automaton.proofs.Laws.Scan.{used, in_slice, ways_here, ways_past, ways_none}
use Rattle.automaton.proofs.first_of.Goals as goal

pub loop-i-init : goal.loop-i-init
loop-i-init c =
    let long : length c.args.a.moves ≡ 256 = search unmapped in
    ap (λ (ts : List Transition). first_by c.args.a (ways_from ts c.args.s 0)) (used c.args.a c.from.result c.from.ensures (omega arith))

pub returns-then-t-s : goal.returns-then-t-s
returns-then-t-s c =
    let x = c.args in
    let i = c.loop-i.i in
    c.on_input.ensures ∙ ap (λ (t : Transition). on_input t.input i) (in_slice x.a.moves c.from.result i (omega arith))
    ∙ sym (c.loop-i.invariant ∙ ap (first_by x.a) (ways_here (take c.from.result x.a.moves) x.s i (omega arith) c.if-t-s.true))

pub loop-i-preserved : goal.loop-i-preserved
loop-i-preserved c = c.loop-i.invariant ∙ ap (first_by c.args.a) (ways_past (take c.from.result c.args.a.moves) c.args.s c.loop-i.i (omega arith) c.if-t-s.false)

pub returns : goal.returns
returns c = sym (c.loop-i.invariant ∙ ap (first_by c.args.a) (ways_none (take c.from.result c.args.a.moves) c.args.s c.loop-i.i (omega arith)))
