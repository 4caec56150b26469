-- The loop over the availabilities. Its invariant: the first i stand in the array.
use mathlib.Core.Path.{◌≡◌}
use lib.ListN.{length}
use Rattle.drive_input.proofs.Filled.{Fills}
use Rattle.drive_input.proofs.availabilities.Given as goal

abbrev pub invariant-loop-i : goal.invariant-loop-i
invariant-loop-i l = (length l.times ≡ 255) × Fills l.input l.at l.i-end l.times l.i
