-- A completion: there whole, or cut off.
use native.Mathlib.Omega.{arith}
use Rattle.drive_input.proofs.Offsets.{completion_cut, completion_there}
use Rattle.drive_input.proofs.completion_at.Goals as goal

pub returns-then-input-at-lt14 : goal.returns-then-input-at-lt14
returns-then-input-at-lt14 c = let a = c.args in completion_cut a.input.now a.at (omega arith)

pub returns : goal.returns
returns c = let a = c.args in completion_there a.input.now a.at _ c.eight.ensures _ c.four-position.ensures.0 (omega arith)
