-- `place_of` meets its contract. Assumes nothing.
use native.Mathlib.Omega.{arith}
use borrow.Author.Tests.{lt-ltb, le-ltb}
use Rattle.timetable_steps.proofs.place_of.Goals as goal

pub returns-then-a-lt32 : goal.returns-then-a-lt32
returns-then-a-lt32 c = (simp (c.in-Activity.is, lt-ltb _ 32 c.if-a-lt32.true, c.from.ensures), omega arith)

pub returns-in-Activity : goal.returns-in-Activity
returns-in-Activity c = (simp (c.in-Activity.is, le-ltb _ 32 c.if-a-lt32.false), omega arith)
