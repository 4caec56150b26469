-- `before::arrows` meets its contract. The loop's invariant: the first n words are those of the nodes, the others 0. Assumes nothing.
use Prim.Native.Nat.{ℕ, ◌<◌, ◌≤◌}
use mathlib.Core.Path.{◌≡◌}
use mathlib.Core.Logic.{◌↔◌}
use lib.ListN.{length, get_or}
use Rattle.basis.specs.Lists.{Among}
use Rattle.plan.specs.Plan.{past_node, predecessors}
use Rattle.activity.specs.Inner.Closure.{Rel}
use Rattle.activity.proofs.before.arrows.Given as goal

abbrev pub invariant-loop-n : goal.invariant-loop-n
invariant-loop-n l = (length l.r ≡ 64) × ((j : ℕ) → j < l.n → (m : ℕ) → Rel l.r m j ↔ Among m (predecessors (get_or l.nodes j past_node))) × ((j : ℕ) → l.n ≤ j → get_or l.r j 0 ≡ 0)
