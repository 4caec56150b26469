-- `chosen_step` meets its contract. Assumes nothing.
use mathlib.Core.Path.{sym, ap, ◌∙◌, subst}
use mathlib.Core.Bool.{true}
use Prim.Native.Nat.{ℕ}
use native.Mathlib.Omega.{arith}
use Rattle.plan.specs.Plan.{move}
use Rattle.timetable_steps.specs.declared.Step.{Step}
use Rattle.timetable_steps.specs.Inner.Steps.{Below, chosen_step}
use Rattle.timetable_steps.proofs.chosen_step.Goals as goal

pub returns-in-None : goal.returns-in-None
returns-in-None c = simp c.in-None.is

pub bounds-a-i : goal.bounds-a-i
bounds-a-i c = let u = subst Below c.in-Some.is c.requires in omega (arith, c.from-i.ensures)

pub returns-in-Some : goal.returns-in-Some
returns-in-Some c =
    ap (λ (i : ℕ). Step.Takes (move c.args.a i) true) c.from-i.ensures ∙ ap (chosen_step c.args.a c.args.e) (sym c.in-Some.is)
