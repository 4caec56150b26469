-- `nodes::labels` meets its contract. The loop's invariant: the labels below n are written. Assumes nothing.
use Prim.Native.Nat.{ℕ, ◌<◌}
use mathlib.Core.Path.{◌≡◌}
use lib.ListN.{length, get_or}
use Rattle.activity.specs.Number.{kind_of}
use Rattle.activity.specs.Inner.Sight.{past_label, label_of}
use Rattle.activity.proofs.nodes.labels.Given as goal

abbrev pub invariant-loop-n : goal.invariant-loop-n
invariant-loop-n l = (length l.r ≡ 64) × ((j : ℕ) → j < l.n → get_or l.r j past_label ≡ label_of (kind_of l.nodes j))
