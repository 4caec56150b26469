-- Each tag says whether the run has stopped.
use borrow.Author.Tests.{eq-eqb, ne_eqb}
use Rattle.made_up.specs.Made.{halt_of}
use Rattle.made_up.proofs.halt_of.Goals as goal

pub returns-then-tag-eq0 : goal.returns-then-tag-eq0
unfolding halt_of
returns-then-tag-eq0 c = rw (eq-eqb _ _ c.if-tag-eq0.true)

pub returns : goal.returns
unfolding halt_of
returns c = rw (ne_eqb _ _ c.if-tag-eq0.false)
