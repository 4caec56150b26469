-- An outcome: there whole, or cut off.
use native.Mathlib.Omega.{arith}
use Rattle.drive_input.proofs.Offsets.{outcome_cut, outcome_there}
use Rattle.drive_input.proofs.outcome_at.Goals as goal

pub returns-then-input-at-lt15 : goal.returns-then-input-at-lt15
returns-then-input-at-lt15 c = let a = c.args in outcome_cut a.input.now a.at (omega arith)

pub returns : goal.returns
returns c = let a = c.args in outcome_there a.input.now a.at _ c.eight.ensures _ c.four-position.ensures.0 (omega arith)
