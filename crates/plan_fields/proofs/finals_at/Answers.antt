-- The final-state bits: each answer by the law of fields.
use native.Mathlib.Omega.{arith}
use borrow.Author.Tests.{ltb-true, ltb-false}
use mathlib.Core.Path.{sym, ◌∙◌}
use Prim.Native.Nat.{◌^◌}
use Rattle.plan_fields.proofs.There.{there, ended, past_most, good}
use Rattle.plan.specs.declared.Fault.{Fault}
use Rattle.plan.specs.Moves.{finals_at}
use Rattle.plan_fields.proofs.finals_at.Goals as goal

pub returns-in_default : goal.returns-in_default
unfolding finals_at
returns-in_default c = rw c.at.ensures (ended 8 0 (2 ^ c.args.states) Fault.Names c.args.bytes.now c.args.at (sym c.wide_at.ensures ∙ c.in_default.is))

pub returns-then-not-in_states : goal.returns-then-not-in_states
unfolding finals_at
returns-then-not-in_states c = rw c.at-then-not-in_states.ensures (past_most 8 0 (2 ^ c.args.states) Fault.Names c.args.bytes.now c.args.at _ (sym c.wide_at.ensures ∙ c.in-Some.is) (omega arith) (ltb-false _ _ (sym c.in_states.ensures ∙ c.if-not-in_states.true)))

pub overflow_add-result : goal.overflow_add-result
overflow_add-result c = let p = there 8 c.args.bytes.now c.args.at _ (sym c.wide_at.ensures ∙ c.in-Some.is) in omega (arith, p.fits)

pub returns : goal.returns
unfolding finals_at
returns c = good 8 0 (2 ^ c.args.states) Fault.Names c.args.bytes.now c.args.at _ (sym c.wide_at.ensures ∙ c.in-Some.is) (omega arith) (ltb-true _ _ (sym c.in_states.ensures ∙ c.if-not-in_states.false))
