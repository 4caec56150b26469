-- `processed` meets its contract, by what the transition processes. The loop's invariant: the whole move is the move of the places that are
-- left, and nothing else changes. Assumes nothing.
use mathlib.Core.Path.{◌≡◌}
use Prim.Native.Nat.{◌+◌, ◌*◌, ◌-◌}
use Rattle.times.specs.Inner.Times.{with_pending}
use Rattle.times.specs.Queues.{shifted_of}
use Rattle.times.proofs.queues.processed.Given as goal

abbrev pub invariant-loop-j : goal.invariant-loop-j
invariant-loop-j l = (l.last ≡ 8 * l.i + 7) × (l.h ≡ with_pending l.initial.h l.h.pending) × (shifted_of (8 * l.i) 7 l.initial.h.pending ≡ shifted_of l.j (l.last - l.j) l.h.pending)
