-- `largest` meets its contract. The loop's invariant: the largest of all is the larger of `best` and of those that are left. Assumes nothing.
use mathlib.Core.Path.{◌≡◌}
use Prim.Native.Nat.{◌-◌, max}
use Rattle.basis.specs.Parts.{part}
use Rattle.times.specs.Times.{largest_of}
use Rattle.times.proofs.starts.largest.Given as goal

abbrev pub invariant-loop-m : goal.invariant-loop-m
invariant-loop-m l =
    largest_of l.end (part 0 l.fn.x.preds 0 l.fn.x.count)
    ≡ max l.best (largest_of l.end (part 0 l.fn.x.preds l.m-index (l.fn.x.count - l.m-index)))
