-- `open_plan` is what it is defined to be: 30 to 32, and then the rest.
use mathlib.Core.Path.{sym, ◌∙◌}
use native.Mathlib.Omega.{arith}
use borrow.Author.Tests.{not-true, not-false}
use Rattle.run.proofs.Opens.{wrong_count, psi_above, one_above, wrong_slack, checked}
use mathlib.Core.Path.{ap}
use mathlib.Core.Bool.{not}
use Rattle.run.proofs.openings.open_plan.Goals as goal

pub returns-then-ts-resources : goal.returns-then-ts-resources
returns-then-ts-resources c =
    let s = c.args in
    c.unopened.ensures ∙ sym (wrong_count s.plan s.psi s.slack s.ts.now c.if-ts-resources.true)

pub returns-then-psi-gt-HORIZON : goal.returns-then-psi-gt-HORIZON
returns-then-psi-gt-HORIZON c =
    let s = c.args in
    c.unopened-then-psi-gt-HORIZON.ensures ∙ sym (psi_above s.plan s.psi s.slack s.ts.now (omega (arith, c.if-ts-resources.false)) c.if-psi-gt-HORIZON.true)

pub returns-then-any_above : goal.returns-then-any_above
returns-then-any_above c =
    let s = c.args in
    c.unopened-then-any_above.ensures ∙ sym (one_above s.plan s.psi s.slack s.ts.now (omega (arith, c.if-ts-resources.false)) c.if-psi-gt-HORIZON.false (sym c.any_above.ensures ∙ c.if-any_above.true))

pub returns-then-not-slack_in_limits : goal.returns-then-not-slack_in_limits
returns-then-not-slack_in_limits c =
    let s = c.args in
    c.unopened-then-not-slack_in_limits.ensures
    ∙ sym (wrong_slack s.plan s.psi s.slack s.ts.now (omega (arith, c.if-ts-resources.false)) c.if-psi-gt-HORIZON.false (sym c.any_above.ensures ∙ c.if-any_above.false) (sym c.slack_in_limits.ensures ∙ not-true c.slack_in_limits.result (ap not c.if-not-slack_in_limits.true)))

pub first_path-requires : goal.first_path-requires
first_path-requires c = record { in_limits = c.requires; ts_len = omega (arith, c.if-ts-resources.false); ts_value = sym c.any_above.ensures ∙ c.if-any_above.false }

pub returns : goal.returns
returns c =
    let s = c.args in
    c.first_path.ensures
    ∙ sym (checked s.plan s.psi s.slack s.ts.now (omega (arith, c.if-ts-resources.false)) c.if-psi-gt-HORIZON.false (sym c.any_above.ensures ∙ c.if-any_above.false) (sym c.slack_in_limits.ensures ∙ not-false c.slack_in_limits.result (ap not c.if-not-slack_in_limits.false)))
