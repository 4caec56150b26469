-- The loop over the instances. Its invariant: the first i stand in the array.
use mathlib.Core.Path.{◌≡◌}
use lib.ListN.{length}
use Rattle.made.specs.Layout.{instance_size, pending_from}
use Rattle.made.specs.Values.{instance_at}
use Rattle.made.proofs.Filled.{Fills}
use Rattle.made.proofs.moments.pending_of.Given as goal

abbrev pub invariant-loop-i : goal.invariant-loop-i
invariant-loop-i l = (length l.x-items ≡ 128) × Fills instance_at instance_size l.bytes pending_from 128 l.x-items l.i
