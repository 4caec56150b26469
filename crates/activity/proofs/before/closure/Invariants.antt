-- `before::closure` meets its contract. The loop's invariant: the words are closed through the nodes below k, for every activity whose arrows they had. Assumes nothing.
use mathlib.Core.Path.{◌≡◌}
use mathlib.Core.List.{List}
use lib.ListN.{length}
use Rattle.plan.specs.declared.Node.{Node}
use Rattle.activity.proofs.Laws.Closure.{Closing}
use Rattle.activity.proofs.before.closure.Given as goal

abbrev pub invariant-loop-k : goal.invariant-loop-k
invariant-loop-k l = (a : List Node) → length a ≡ l.count → Closing a 0 l.initial.r → Closing a l.k l.r
