-- The loop over the bytes. Its invariant: the first i stand in the part.
use mathlib.Core.Path.{◌≡◌}
use lib.ListN.{length}
use Rattle.made.specs.Values.{byte_at}
use Rattle.made.proofs.Filled.{Fills}
use Rattle.made.proofs.numbers.fill.Given as goal

abbrev pub invariant-loop-i : goal.invariant-loop-i
invariant-loop-i l = (length l.part ≡ length l.initial.part) × Fills byte_at 1 l.bytes l.at (length l.initial.part) l.part l.i
