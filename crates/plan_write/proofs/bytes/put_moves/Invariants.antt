-- The loop over the transitions: what is left is put after what was put.
use Rattle.std.specs.Prelude.{◌≡◌, ◌+◌, ◌*◌, ◌-◌, ◌≤◌, length}
use Rattle.basis.specs.Parts.{part}
use Rattle.format.specs.Inner.Flat.{flat}
use Rattle.plan.specs.Plan.{past_move, moves_of}
use Rattle.plan_write.specs.Inner.Bytes.{move_bytes}
use Rattle.plan_write.proofs.Laws.Left.{Left}
use Rattle.plan_write.proofs.bytes.put_moves.Given as goal

abbrev pub invariant-loop-m : goal.invariant-loop-m
invariant-loop-m l =
    record {
      off : l.off ≤ l.fn.at + 6 * l.m-index;
      long : length l.out ≡ length l.fn.out;
      left : Left l.fn.out l.fn.at (flat move_bytes (moves_of l.fn.t)) l.out l.off (flat move_bytes (part past_move l.fn.t.moves l.m-index (l.fn.t.count - l.m-index)));
    }
