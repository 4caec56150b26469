use Rattle.std.specs.Prelude.{◌≡◌, List, length, take}
use Rattle.std.proofs.Common.{ap, sym, ◌∙◌, arith}
use Rattle.basis.proofs.Laws.Lists.{unmapped}
use Rattle.plan.specs.declared.Transition.{Transition}
use Rattle.automaton.specs.Next.{chosen_from}
use Rattle.automaton.proofs.Laws.Scan.{used, chosen_here, chosen_other, chosen_past, chosen_none}
use Rattle.automaton.proofs.chosen_of.Goals.{else-t-s-via-then-t-s+else-carries, else-t-s-via-else-t-s}
use Rattle.automaton.proofs.chosen_of.Goals as goal

pub loop-i-init : goal.loop-i-init
loop-i-init c =
    let x = c.args in
    let long : length x.a.moves ≡ 256 = search unmapped in
    ap (λ (ts : List Transition). chosen_from ts x.s x.e x.o 0) (used x.a c.from.result c.from.ensures (omega arith))

pub returns-then-carries : goal.returns-then-carries
returns-then-carries c =
    let x = c.args in
    sym (c.loop-i.invariant ∙ chosen_here (take c.from.result x.a.moves) x.s c.loop-i.i x.e x.o (omega arith) c.if-t-s.true (sym c.carries.ensures ∙ c.if-carries.true))

pub loop-i-preserved : goal.loop-i-preserved
loop-i-preserved c =
    let x = c.args in
    let l = take c.from.result x.a.moves in
    c.loop-i.invariant ∙ elim c.else-t-s.branch [
      | else-t-s-via-then-t-s+else-carries w ↦ chosen_past l x.s c.loop-i.i x.e x.o (omega arith) w.if-t-s.true (sym w.carries.ensures ∙ w.if-carries.false)
      | else-t-s-via-else-t-s w ↦ chosen_other l x.s c.loop-i.i x.e x.o (omega arith) w.if-t-s.false
    ]

pub returns : goal.returns
returns c =
    let x = c.args in
    sym (c.loop-i.invariant ∙ chosen_none (take c.from.result x.a.moves) x.s c.loop-i.i x.e x.o (omega arith))
