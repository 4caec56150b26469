-- An ask: there whole, or cut off.
use native.Mathlib.Omega.{arith}
use Rattle.drive_input.proofs.Offsets.{ask_cut, ask_there}
use Rattle.drive_input.proofs.ask_at.Goals as goal

pub returns-then-input-at-lt9 : goal.returns-then-input-at-lt9
returns-then-input-at-lt9 c = let a = c.args in ask_cut a.input.now a.at (omega arith)

pub returns : goal.returns
returns c = let a = c.args in ask_there a.input.now a.at _ c.eight.ensures (omega arith)
