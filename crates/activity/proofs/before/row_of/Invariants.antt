-- `before::row_of` meets its contract. The loop's invariant: the bits that stand are the predecessors so far. Assumes nothing.
use Prim.Native.Nat.{ℕ, ◌<◌}
use mathlib.Core.Path.{◌≡◌}
use mathlib.Core.Logic.{◌↔◌}
use lib.ListN.{get_or}
use Rattle.activity.specs.Inner.Bits.{Bit}
use Rattle.activity.proofs.before.row_of.Given as goal

abbrev pub invariant-loop-m : goal.invariant-loop-m
invariant-loop-m l = (m : ℕ) → Bit l.w m ↔ ((i : ℕ) × (i < l.m-index) × (get_or l.fn.node.preds i 0 ≡ m))
