-- `column_of` meets its contract. Assumes nothing.
use native.Mathlib.Omega.{arith}
use borrow.Author.Tests.{lt-ltb, le-ltb}
use Rattle.timetable_steps.proofs.column_of.Goals as goal

pub returns-then-o-lt8 : goal.returns-then-o-lt8
returns-then-o-lt8 c = (simp (c.in-Some.is, lt-ltb _ 8 c.if-o-lt8.true, c.from.ensures), omega arith)

pub returns-in-Some : goal.returns-in-Some
returns-in-Some c = (simp (c.in-Some.is, le-ltb _ 8 c.if-o-lt8.false), omega arith)
