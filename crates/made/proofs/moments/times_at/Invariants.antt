-- The loop over the times. Its invariant: the first i stand in the array.
use mathlib.Core.Path.{◌≡◌}
use lib.ListN.{length}
use Rattle.made.specs.Layout.{time_size}
use Rattle.made.specs.Values.{time_at}
use Rattle.made.proofs.Filled.{Fills}
use Rattle.made.proofs.moments.times_at.Given as goal

abbrev pub invariant-loop-i : goal.invariant-loop-i
invariant-loop-i l = (length l.x-items ≡ 16) × Fills time_at time_size l.bytes l.at 16 l.x-items l.i
