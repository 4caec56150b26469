-- The loops over activities and nodes: what is left is put after what was put.
use Rattle.std.specs.Prelude.{◌≡◌, ◌+◌, ◌*◌, ◌-◌, ◌≤◌, length}
use Rattle.plan_write.specs.Inner.Bytes.{activity_bytes}
use Rattle.plan_write.proofs.Laws.Left.{Left, to_put}
use Rattle.plan_write.proofs.bytes.put_activities.Given as goal

abbrev pub invariant-loop-a : goal.invariant-loop-a
invariant-loop-a l =
    record {
      off : l.off ≤ l.fn.at + 1025 * l.a;
      long : length l.out ≡ length l.fn.out;
      left : Left l.fn.out l.fn.at (activity_bytes l.fn.plan 0 l.fn.plan.activities) l.out l.off (to_put l.fn.plan l.a 0 0);
    }

abbrev pub invariant-loop-n : goal.invariant-loop-n
invariant-loop-n l =
    record {
      off : l.off ≤ l.fn.at + 1025 * l.a + 1 + 16 * l.n;
      long : length l.out ≡ length l.fn.out;
      left : Left l.fn.out l.fn.at (activity_bytes l.fn.plan 0 l.fn.plan.activities) l.out l.off (to_put l.fn.plan (l.a + 1) (64 * l.a + l.n) (l.n-end - l.n));
    }
