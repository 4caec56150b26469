use borrow.Author.Tests.{eq-eqb, ne_eqb}
use Rattle.held.proofs.moves.input_of.Goals as goal

pub returns-then-input-eq1 : goal.returns-then-input-eq1
returns-then-input-eq1 c = simp (eq-eqb _ _ c.if-input-eq1.true)

pub returns : goal.returns
returns c = simp (ne_eqb _ _ c.if-input-eq1.false)
