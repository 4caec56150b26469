-- The loop over the transitions. Its invariant: the first i stand in the array.
use mathlib.Core.Path.{◌≡◌}
use lib.ListN.{length}
use Rattle.made.specs.Layout.{move_size, moves_from}
use Rattle.made.specs.Values.{move_at}
use Rattle.made.proofs.Filled.{Fills}
use Rattle.made.proofs.automata.moves_of.Given as goal

abbrev pub invariant-loop-i : goal.invariant-loop-i
invariant-loop-i l = (length l.x-items ≡ 256) × Fills move_at move_size l.bytes moves_from 256 l.x-items l.i
