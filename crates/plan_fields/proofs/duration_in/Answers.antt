-- A duration that is present: each answer by the law of fields.
use native.Mathlib.Omega.{arith}
use mathlib.Core.Path.{sym, ◌∙◌}
use Rattle.plan_fields.proofs.There.{there, ended, below_low, past_most, good}
use Rattle.plan.specs.declared.Fault.{Fault}
use Rattle.plan_fields.proofs.duration_in.Goals.{then-x-lt1-via-then-x-lt1, then-x-lt1-via-else-x-lt1+then-x-gt60000000}
use Rattle.plan_fields.proofs.duration_in.Goals as goal

pub returns-in_default : goal.returns-in_default
returns-in_default c = rw c.at.ensures (ended 4 1 60000001 Fault.Duration c.args.bytes.now c.args.at (sym c.long_at.ensures ∙ c.in_default.is))

pub returns-then-x-lt1 : goal.returns-then-x-lt1
returns-then-x-lt1 c =
    let e = sym c.long_at.ensures ∙ c.in-Some.is in
    elim c.then-x-lt1.branch [
      | then-x-lt1-via-then-x-lt1 w ↦ rw c.at-then-x-lt1.ensures (below_low 4 1 60000001 Fault.Duration c.args.bytes.now c.args.at _ e (omega (arith, w.if-x-lt1.true)))
      | then-x-lt1-via-else-x-lt1+then-x-gt60000000 w ↦ rw c.at-then-x-lt1.ensures (past_most 4 1 60000001 Fault.Duration c.args.bytes.now c.args.at _ e (omega (arith, w.if-x-lt1.false)) (omega (arith, w.if-x-gt60000000.true)))
    ]

pub overflow_add-result : goal.overflow_add-result
overflow_add-result c = let p = there 4 c.args.bytes.now c.args.at _ (sym c.long_at.ensures ∙ c.in-Some.is) in omega (arith, p.fits)

pub returns : goal.returns
returns c = good 4 1 60000001 Fault.Duration c.args.bytes.now c.args.at _ (sym c.long_at.ensures ∙ c.in-Some.is) (omega arith) (omega arith)
