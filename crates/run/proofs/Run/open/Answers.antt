-- `open` is what it is defined to be: the bytes are judged, and then the plan is opened.
use mathlib.Core.Path.{sym, ◌∙◌}
use native.Mathlib.Omega.{arith}
use Rattle.run.proofs.Opens.{judged_limits, opens_plan, refuses_plan}
use Rattle.run.proofs.Run.open.Goals as goal

pub returns-in-Err : goal.returns-in-Err
returns-in-Err c =
    let s = c.args in
    let q = c.judge-judged in
    c.unopened.ensures ∙ sym (refuses_plan s.bytes.now q.result q.ensures s.psi s.slack s.availabilities.now _ _ c.in-Err.is)

pub open_plan-requires : goal.open_plan-requires
open_plan-requires c =
    let q = c.judge-judged in
    judged_limits c.args.bytes.now q.result q.ensures (λ k. omega (arith, c.type_inv.bytes k)) c.in-Ok.is

pub returns-in-Ok : goal.returns-in-Ok
returns-in-Ok c =
    let s = c.args in
    let q = c.judge-judged in
    c.open_plan.ensures ∙ sym (opens_plan s.bytes.now q.result q.ensures s.psi s.slack s.availabilities.now c.in-Ok.is)
