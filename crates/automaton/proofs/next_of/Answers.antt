use Rattle.std.specs.Prelude.{◌≡◌, List, ◌∷◌, length, take}
use Rattle.std.proofs.Common.{ap, sym, subst, ◌∙◌, arith}
use Rattle.basis.proofs.Laws.Lists.{unmapped}
use Rattle.plan.specs.declared.Input.{Input}
use Rattle.plan.specs.declared.Transition.{Transition}
use Rattle.automaton.specs.Next.{ways_from, on_input, next_by}
use Rattle.automaton.proofs.Laws.Scan.{used, in_slice, ways_here, ways_past, ways_none}
use Rattle.automaton.proofs.next_of.Invariants.{Kept, before}
use Rattle.automaton.proofs.next_of.Goals as goal

pub loop-i-init : goal.loop-i-init
loop-i-init c =
    let x = c.args in
    let long : length x.a.moves ≡ 256 = search unmapped in
    record { ways = ap (λ (ts : List Transition). ways_from ts x.s 0) (used x.a c.from.result c.from.ensures (omega arith)); input = tt }

pub returns-in-Some : goal.returns-in-Some
returns-in-Some c =
    let x = c.args in
    let w = c.in-Some in
    let kept = subst (Kept x.a) w.is c.loop-i.invariant.input in
    c.on_input.ensures ∙ ap (λ (n : Input). on_input n w.f) (sym kept)
    ∙ sym (ap (next_by x.a) (rw w.is at c.loop-i.invariant.ways ∙ ap (◌∷◌ w.f) (ways_here (take c.from.result x.a.moves) x.s c.loop-i.i (omega arith) c.if-t-s.false)))

pub loop-i-preserved-then-t-s : goal.loop-i-preserved-then-t-s
loop-i-preserved-then-t-s c =
    let x = c.args in
    record { ways = c.loop-i.invariant.ways ∙ ap (before c.loop-i.first) (ways_past (take c.from.result x.a.moves) x.s c.loop-i.i (omega arith) c.if-t-s.true); input = c.loop-i.invariant.input }

pub loop-i-preserved : goal.loop-i-preserved
loop-i-preserved c =
    let x = c.args in
    let i = c.loop-i.i in
    record {
      ways = rw c.in_default.is at c.loop-i.invariant.ways ∙ ways_here (take c.from.result x.a.moves) x.s i (omega arith) c.if-t-s.false;
      input = ap (λ (t : Transition). t.input) (sym (in_slice x.a.moves c.from.result i (omega arith)));
    }

pub returns-in-Some-first : goal.returns-in-Some-first
returns-in-Some-first c =
    let x = c.args in
    let w = c.in-Some-first in
    sym (ap (next_by x.a) (rw w.is at c.loop-i.invariant.ways ∙ ap (◌∷◌ w.f) (ways_none (take c.from.result x.a.moves) x.s c.loop-i.i (omega arith))))

pub returns-in-None : goal.returns-in-None
returns-in-None c =
    let x = c.args in
    sym (ap (next_by x.a) (rw c.in-None.is at c.loop-i.invariant.ways ∙ ways_none (take c.from.result x.a.moves) x.s c.loop-i.i (omega arith)))
