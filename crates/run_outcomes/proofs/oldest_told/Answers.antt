use native.Mathlib.Nat.{add-zero}
use borrow.Author.Tests.{lt-ltb, le-ltb}
use Rattle.run_outcomes.proofs.oldest_told.Goals as goal

pub returns-then-g-i-gt0 : goal.returns-then-g-i-gt0
returns-then-g-i-gt0 c = rw (← c.from-i.ensures, lt-ltb _ _ c.if-g-i-gt0.true, add-zero)

pub returns-else-g-i-gt0 : goal.returns-else-g-i-gt0
returns-else-g-i-gt0 c = rw (← c.from-i.ensures, le-ltb _ _ c.if-g-i-gt0.false)
