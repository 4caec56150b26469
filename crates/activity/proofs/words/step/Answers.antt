-- `words::step` meets its contract: one word of a pass through node k. Assumes nothing.
use mathlib.Core.Logic.{inl, inr, ⊎_elim}
use Rattle.basis.proofs.Laws.Tells.{told_true}
use Rattle.activity.proofs.Laws.Bits.{or_iff}
use Rattle.activity.proofs.words.step.Goals as goal

pub returns-then-has : goal.returns-then-has
returns-then-has c j =
    let a = c.args in
    let i = or_iff a.w a.row j in
    let b = told_true c.has.ensures c.if-has.true in
    (λ e. ⊎_elim inl (λ x. inr (b, x)) (i.0 e), λ s. i.1 (⊎_elim inl (λ q. inr q.1) s))
