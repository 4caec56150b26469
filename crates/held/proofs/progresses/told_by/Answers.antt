use borrow.Author.Tests.{eq-eqb, ne_eqb}
use Rattle.held.proofs.progresses.told_by.Goals as goal

pub returns-then-told-eq1 : goal.returns-then-told-eq1
returns-then-told-eq1 c = simp (eq-eqb _ _ c.if-told-eq1.true)

pub returns : goal.returns
returns c = simp (ne_eqb _ _ c.if-told-eq1.false)
