-- `step_of` meets its contract, by what the state does next. Assumes nothing.
use mathlib.Core.Path.{sym, ap, ◌∙◌}
use mathlib.Core.Bool.{false}
use Prim.Native.Nat.{ℕ}
use native.Mathlib.Omega.{arith}
use Rattle.plan.specs.Plan.{move}
use Rattle.timetable_steps.specs.declared.Step.{Step}
use Rattle.timetable_steps.proofs.Laws.Steps.{goes_below, step_as}
use Rattle.timetable_steps.proofs.step_of.Goals as goal

pub next_of-next-requires : goal.next_of-next-requires
next_of-next-requires c = c.requires.few

pub returns-in-Ended : goal.returns-in-Ended
returns-in-Ended c = step_as _ _ _ _ _ _ c.next_of-next.ensures c.in-Ended.is

pub bounds-a-i : goal.bounds-a-i
bounds-a-i c =
    let n = c.next_of-next in
    let u = goes_below c.args.a c.args.s _ (sym n.ensures ∙ c.in-Goes.is) in
    omega (arith, c.from-i.ensures, c.requires.few)

pub returns-in-Goes : goal.returns-in-Goes
returns-in-Goes c =
    ap (λ (i : ℕ). Step.Takes (move c.args.a i) false) c.from-i.ensures ∙ step_as c.args.a c.args.outcomes c.args.s c.args.heard _ _ c.next_of-next.ensures c.in-Goes.is

pub heard_step-requires : goal.heard_step-requires
heard_step-requires c = (c.requires.few, c.requires.awaited _ (sym c.next_of-next.ensures ∙ c.in-Waits.is))

pub returns-in-Waits : goal.returns-in-Waits
returns-in-Waits c =
    c.heard_step.ensures ∙ step_as c.args.a c.args.outcomes c.args.s c.args.heard _ _ c.next_of-next.ensures c.in-Waits.is
