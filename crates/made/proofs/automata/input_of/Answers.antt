-- Each tag gives its input.
use borrow.Author.Tests.{eq-eqb, ne_eqb}
use Rattle.made.specs.Values.{input_of}
use Rattle.made.proofs.automata.input_of.Goals as goal

pub returns-then-tag-eq0 : goal.returns-then-tag-eq0
unfolding input_of
returns-then-tag-eq0 c = rw (eq-eqb _ _ c.if-tag-eq0.true)

pub returns : goal.returns
unfolding input_of
returns c = rw (ne_eqb _ _ c.if-tag-eq0.false)
