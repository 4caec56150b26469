use mathlib.Core.Path.{refl, ◌∙◌}
use native.Mathlib.Omega.{arith}
use Rattle.timetable_lines.proofs.Laws.Lines.{remains_all}
use Rattle.timetable_turns.proofs.Placing.{remains_none}
use Rattle.timetable_turns.proofs.whole.put_turns.Goals as goal

pub loop-w-init : goal.loop-w-init
loop-w-init c = (c.requires.start_bound, c.requires.standing, refl, remains_all _ _ _ _ refl)

pub put_turn-w-requires : goal.put_turn-w-requires
put_turn-w-requires c = let l = c.loop-w in record { start_bound = l.invariant.0; standing = (l.invariant.1, c.loop-w-test.true) }

pub loop-w-smaller : goal.loop-w-smaller
loop-w-smaller c = let g = c.put_turn-w.ensures.1 in omega arith

pub loop-w-preserved : goal.loop-w-preserved
loop-w-preserved c =
    let l = c.loop-w in
    (l.invariant.0, c.put_turn-w.ensures.0, c.put_turn-w.auto.out ∙ l.invariant.2, λ after next p. l.invariant.3 after next (c.put_turn-w.ensures.2 after next p))

pub returns : goal.returns
returns c =
    let a = c.args in
    let l = c.loop-w in
    remains_none a.plan a.start a.input.now l.w (omega (arith, c.loop-w-test.false)) _ _ _ _ l.invariant.3
