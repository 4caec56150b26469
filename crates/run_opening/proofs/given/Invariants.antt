-- `given` is the availabilities in an array. The loop's invariant: the first i of them are there, and zeros.
use mathlib.Core.Path.{◌≡◌}
use Rattle.run_opening.proofs.Filled.{filled}
use Rattle.run_opening.proofs.given.Given as goal

abbrev pub invariant-loop-i : goal.invariant-loop-i
invariant-loop-i l = l.available ≡ filled l.ts l.i
