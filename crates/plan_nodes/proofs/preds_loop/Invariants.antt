-- The loop over the predecessors: the whole answer is the answer of what is left.
use mathlib.Core.Path.{◌≡◌}
use Prim.Native.Nat.{◌-◌, ◌≤◌}
use lib.ListN.{length, replicate}
use Rattle.plan.specs.Nodes.{preds_loop}
use Rattle.plan_nodes.proofs.preds_loop.Given as goal

abbrev pub invariant-loop-i : goal.invariant-loop-i
invariant-loop-i l = (l.i ≤ l.count) × (l.count ≤ 8) × (length l.preds ≡ 8)
    × (preds_loop l.size l.bytes l.count l.count l.at 0 0 (replicate 8 0) ≡ preds_loop l.size l.bytes l.count (l.count - l.i) l.off l.i l.low l.preds)
