use Rattle.std.specs.Prelude.{◌≡◌, get_or, take}
use Rattle.std.proofs.Common.{◌∙◌, arith, get_or-take}
use Rattle.plan.specs.Plan.{past_move}
use Rattle.plan_write.proofs.Laws.Left.{left_next, moves_turn}
use Rattle.plan_write.proofs.Laws.Printed.{move_length}
use Rattle.plan_write.proofs.bytes.put_moves.Goals as goal

pub loop-m-preserved : goal.loop-m-preserved
loop-m-preserved c =
    let t = c.args.t in
    let i = c.loop-m.m-index in
    let e : get_or (take c.from.result t.moves) i past_move ≡ get_or t.moves i past_move = get_or-take c.from.result t.moves i past_move (omega arith) in
    let put = rw e at c.put_move-off.ensures in
    record {
      off = omega (arith, put.past, move_length (get_or t.moves i past_move));
      long = c.put_move-off.auto.out ∙ c.loop-m.invariant.long;
      left = left_next _ _ _ c.loop-m.out _ c.loop-m.off _ _ _ _ (moves_turn t.moves t.count i (omega arith)) c.loop-m.invariant.left put;
    }
