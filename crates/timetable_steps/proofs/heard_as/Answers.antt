-- `heard_as` meets its contract. Assumes nothing.
use borrow.Author.Tests.{lt-ltb, le-ltb}
use Rattle.timetable_steps.proofs.heard_as.Goals as goal

pub returns-then-column-lt9 : goal.returns-then-column-lt9
returns-then-column-lt9 c = simp (lt-ltb _ 9 c.if-column-lt9.true)

pub returns : goal.returns
returns c = simp (le-ltb _ 9 c.if-column-lt9.false)
