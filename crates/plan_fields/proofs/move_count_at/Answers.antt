-- The transition count: each answer by the law of fields.
use native.Mathlib.Omega.{arith}
use mathlib.Core.Path.{sym, ◌∙◌}
use Rattle.plan_fields.proofs.There.{there, ended, past_most, good}
use Rattle.plan.specs.declared.Fault.{Fault}
use Rattle.plan.specs.Moves.{move_count_at}
use Rattle.plan_fields.proofs.move_count_at.Goals as goal

pub returns-in_default : goal.returns-in_default
unfolding move_count_at
returns-in_default c = rw c.at.ensures (ended 2 0 257 Fault.Count c.args.bytes.now c.args.at (sym c.short_at.ensures ∙ c.in_default.is))

pub returns-then-x-gt256 : goal.returns-then-x-gt256
unfolding move_count_at
returns-then-x-gt256 c = rw c.at-then-x-gt256.ensures (past_most 2 0 257 Fault.Count c.args.bytes.now c.args.at _ (sym c.short_at.ensures ∙ c.in-Some.is) (omega arith) (omega arith))

pub overflow_add-result : goal.overflow_add-result
overflow_add-result c = let p = there 2 c.args.bytes.now c.args.at _ (sym c.short_at.ensures ∙ c.in-Some.is) in omega (arith, p.fits)

pub returns : goal.returns
unfolding move_count_at
returns c = good 2 0 257 Fault.Count c.args.bytes.now c.args.at _ (sym c.short_at.ensures ∙ c.in-Some.is) (omega arith) (omega arith)
