-- A field of one byte: each answer by the law of fields.
use native.Mathlib.Omega.{arith}
use mathlib.Core.Path.{sym, ◌∙◌}
use Rattle.plan_fields.proofs.There.{there, ended, below_low, past_most, good}
use Rattle.plan.specs.Fields.{byte_at}
use Rattle.plan_fields.proofs.byte_in.Goals.{then-x-low-via-then-x-low, then-x-low-via-else-x-low+then-from-below}
use Rattle.plan_fields.proofs.byte_in.Goals as goal

pub returns-in_default : goal.returns-in_default
unfolding byte_at
returns-in_default c = rw c.at.ensures (ended 1 c.args.low c.args.below c.args.wrong c.args.bytes.now c.args.at (sym c.byte_at.ensures ∙ c.in_default.is))

pub returns-then-x-low : goal.returns-then-x-low
unfolding byte_at
returns-then-x-low c =
    let e = sym c.byte_at.ensures ∙ c.in-Some.is in
    elim c.then-x-low.branch [
      | then-x-low-via-then-x-low w ↦ rw c.at-then-x-low.ensures (below_low 1 c.args.low c.args.below c.args.wrong c.args.bytes.now c.args.at _ e w.if-x-low.true)
      | then-x-low-via-else-x-low+then-from-below w ↦ rw c.at-then-x-low.ensures (past_most 1 c.args.low c.args.below c.args.wrong c.args.bytes.now c.args.at _ e w.if-x-low.false (omega (arith, w.from.ensures, w.if-from-below.true)))
    ]

pub overflow_add-result : goal.overflow_add-result
overflow_add-result c = let p = there 1 c.args.bytes.now c.args.at _ (sym c.byte_at.ensures ∙ c.in-Some.is) in omega (arith, p.fits)

pub returns : goal.returns
unfolding byte_at
returns c = good 1 c.args.low c.args.below c.args.wrong c.args.bytes.now c.args.at _ (sym c.byte_at.ensures ∙ c.in-Some.is) c.if-x-low.false (omega (arith, c.from.ensures, c.if-from-below.false))
