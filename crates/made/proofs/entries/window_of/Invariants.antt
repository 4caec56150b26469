-- The loop over the places. Its invariant: the first i stand in the array.
use mathlib.Core.Path.{◌≡◌}
use lib.ListN.{length}
use Rattle.made.specs.Layout.{entry_size, window_from}
use Rattle.made.specs.Values.{entry_at}
use Rattle.made.proofs.Filled.{Fills}
use Rattle.made.proofs.entries.window_of.Given as goal

abbrev pub invariant-loop-i : goal.invariant-loop-i
invariant-loop-i l = (length l.x-items ≡ 512) × Fills entry_at entry_size l.bytes window_from 512 l.x-items l.i
