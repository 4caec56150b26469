-- `ready` meets its contract. The loop's invariant: the answer for all predecessors is the answer for those that are left. Assumes nothing.
use mathlib.Core.Path.{◌≡◌}
use Prim.Native.Nat.{◌-◌}
use Rattle.basis.specs.Parts.{part}
use Rattle.times.specs.Times.{ready_of}
use Rattle.times.proofs.starts.ready.Given as goal

abbrev pub invariant-loop-m : goal.invariant-loop-m
invariant-loop-m l = ready_of l.done (part 0 l.fn.x.preds 0 l.fn.x.count) ≡ ready_of l.done (part 0 l.fn.x.preds l.m-index (l.fn.x.count - l.m-index))
