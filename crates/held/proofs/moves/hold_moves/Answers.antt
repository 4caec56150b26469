use Rattle.std.specs.Prelude.{◌≡◌, length, refl}
use Rattle.std.proofs.Common.{◌∙◌, arith, rules}
use Rattle.plan.specs.declared.Transition.{Transition}
use Rattle.held.specs.declared.HeldMove.{HeldMove}
use Rattle.held.specs.Held.{held_move}
use Rattle.held.proofs.Filled.{fill_turn, fill_end}
use Rattle.held.proofs.moves.hold_moves.Goals as goal

pub loop-i-init : goal.loop-i-init
loop-i-init c = (refl, refl)

pub loop-i-preserved : goal.loop-i-preserved
loop-i-preserved c =
    let long : length c.args.moves ≡ 256 = search rules in
    (refl, rw c.from.ensures (fill_turn Transition HeldMove held_move c.args.moves _ _ _ _ (omega (arith, long)) (long) c.loop-i.invariant.1))

pub returns : goal.returns
returns c =
    let long : length c.args.moves ≡ 256 = search rules in
    simp (c.loop-i.invariant.1 ∙ fill_end Transition HeldMove held_move c.args.moves _ c.loop-i.i (omega (arith, long)) (long))
