-- The three answers: a rule broken, a buffer too short, the bytes.
use native.Mathlib.Omega.{arith}
use mathlib.Core.Path.{sym, ◌∙◌}
use Rattle.plan_write.proofs.Answers.{breaks_rule, too_short, wrote}
use Rattle.format.proofs.Laws.Format.{keeps_iff}
use Rattle.plan_file.specs.PlanFile.{fault_order, plan_file}
use Rattle.plan_file.proofs.Laws.HoldsPlan.{plan_iff}
use Rattle.plan_write.proofs.write.Goals as goal

pub put_plan-size-requires : goal.put_plan-size-requires
put_plan-size-requires c = ((plan_iff c.args.plan).0 ((keeps_iff fault_order plan_file c.args.plan).0 (sym c.file_rules.ensures ∙ c.if-not-file_rules.false))).limits

pub put_plan-requires : goal.put_plan-requires
put_plan-requires c = ((plan_iff c.args.plan).0 ((keeps_iff fault_order plan_file c.args.plan).0 (sym c.file_rules.ensures ∙ c.if-not-file_rules.false))).limits

pub returns-then-not-file_rules : goal.returns-then-not-file_rules
returns-then-not-file_rules c = breaks_rule c.args.plan c.args.out.now (sym c.file_rules.ensures ∙ c.if-not-file_rules.true)

pub returns-then-size-out : goal.returns-then-size-out
returns-then-size-out c = too_short c.args.plan c.args.out.now (sym c.file_rules.ensures ∙ c.if-not-file_rules.false) _ _ _ c.put_plan-size.ensures (omega arith)

pub returns : goal.returns
returns c = wrote c.args.plan c.args.out.now (sym c.file_rules.ensures ∙ c.if-not-file_rules.false) _ _ _ c.put_plan-size.ensures (omega arith) _ _ c.put_plan.ensures
