use Rattle.std.specs.Prelude.{◌≡◌, length, replicate}
use Rattle.std.proofs.Common.{◌∙◌, arith, rules}
use Rattle.plan.specs.Plan.{past_move}
use Rattle.plan.specs.declared.Transition.{Transition}
use Rattle.held.specs.declared.HeldMove.{HeldMove}
use Rattle.held.specs.Held.{move_of}
use Rattle.held.proofs.Filled.{fill_turn, fill_all}
use Rattle.held.proofs.moves.moves_upto.Goals as goal

pub loop-i-preserved : goal.loop-i-preserved
loop-i-preserved c =
    let long : length c.args.held ≡ 256 = search rules in
    rw c.from-in-loop-i.ensures (fill_turn HeldMove Transition move_of c.args.held (replicate 256 past_move) _ _ _ (omega (arith, long)) (long) c.loop-i.invariant)

pub returns : goal.returns
returns c =
    let long : length c.args.held ≡ 256 = search rules in
    c.loop-i.invariant ∙ fill_all HeldMove Transition move_of c.args.held (replicate 256 past_move) c.loop-i.i c.args.count (omega (arith, long)) (long)
