-- The question where a node stands: there whole, or cut off.
use native.Mathlib.Omega.{arith}
use Rattle.drive_input.proofs.Offsets.{place_cut, place_there}
use Rattle.drive_input.proofs.place_at.Goals as goal

pub returns-then-input-at-lt6 : goal.returns-then-input-at-lt6
returns-then-input-at-lt6 c = let a = c.args in place_cut a.input.now a.at (omega arith)

pub returns : goal.returns
returns c = let a = c.args in place_there a.input.now a.at _ c.four-position.ensures.0 (omega arith)
