use borrow.Author.Tests.{eq-eqb, ne_eqb}
use Rattle.held.proofs.moves.output_of.Goals as goal

pub returns-then-output-eq1 : goal.returns-then-output-eq1
returns-then-output-eq1 c = simp (eq-eqb _ _ c.if-output-eq1.true)

pub returns : goal.returns
returns c = simp (ne_eqb _ _ c.if-output-eq1.false)
