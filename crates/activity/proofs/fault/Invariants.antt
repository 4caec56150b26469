-- `fault` meets its contract. The loop's invariant: `first` is the first rule that the nodes below n break. Assumes nothing.
use lib.ListN.{get_or}
use Rattle.activity.specs.Inner.Order.{Lowest}
use Rattle.activity.proofs.Judging.{Asked}
use Rattle.activity.proofs.fault.Given as goal

abbrev pub invariant-loop-n : goal.invariant-loop-n
invariant-loop-n l = Lowest (Asked (λ p. get_or l.belongs p 0) l.nodes l.n) l.first
