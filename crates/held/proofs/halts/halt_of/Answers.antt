use borrow.Author.Tests.{eq-eqb, ne_eqb}
use Rattle.held.proofs.halts.halt_of.Goals as goal

pub returns-then-h-eq1 : goal.returns-then-h-eq1
returns-then-h-eq1 c = simp (eq-eqb _ _ c.if-h-eq1.true)

pub returns-then-h-eq2 : goal.returns-then-h-eq2
returns-then-h-eq2 c = simp (ne_eqb _ _ c.if-h-eq1.false, eq-eqb _ _ c.if-h-eq2.true)

pub returns-then-h-eq3 : goal.returns-then-h-eq3
returns-then-h-eq3 c = simp (ne_eqb _ _ c.if-h-eq1.false, ne_eqb _ _ c.if-h-eq2.false, eq-eqb _ _ c.if-h-eq3.true)

pub returns-then-h-eq4 : goal.returns-then-h-eq4
returns-then-h-eq4 c =
    simp (ne_eqb _ _ c.if-h-eq1.false, ne_eqb _ _ c.if-h-eq2.false, ne_eqb _ _ c.if-h-eq3.false, eq-eqb _ _ c.if-h-eq4.true)

pub returns : goal.returns
returns c =
    simp (ne_eqb _ _ c.if-h-eq1.false, ne_eqb _ _ c.if-h-eq2.false, ne_eqb _ _ c.if-h-eq3.false, ne_eqb _ _ c.if-h-eq4.false)
