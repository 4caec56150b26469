-- The byte says how many follow it; the input holds them or ends.
use native.Mathlib.Omega.{arith}
use Rattle.link_drive.proofs.Turns.{next_ends, next_at}
use Rattle.link_drive.proofs.next_of.Goals as goal

pub returns-then-at-input : goal.returns-then-at-input
returns-then-at-input c = let a = c.args in next_ends a.input.now a.at (omega (arith, c.if-at-input.true))

pub returns-then-input-at : goal.returns-then-input-at
returns-then-input-at c = let a = c.args in next_ends a.input.now a.at (omega (arith, c.if-input-at.true, c.from-n.ensures))

pub returns : goal.returns
returns c = let a = c.args in next_at a.input.now a.at (omega (arith, c.if-input-at.false, c.from-n.ensures)) _ (omega (arith, c.from-n.ensures))
