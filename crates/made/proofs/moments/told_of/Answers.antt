-- Each tag gives what was told.
use borrow.Author.Tests.{eq-eqb, ne_eqb}
use Rattle.made.specs.Values.{told_of}
use Rattle.made.proofs.moments.told_of.Goals as goal

pub returns-then-tag-eq0 : goal.returns-then-tag-eq0
unfolding told_of
returns-then-tag-eq0 c = rw (eq-eqb _ _ c.if-tag-eq0.true)

pub returns : goal.returns
unfolding told_of
returns c = rw (ne_eqb _ _ c.if-tag-eq0.false)
