-- `heard_step` meets its contract. Assumes nothing.
use mathlib.Core.Path.{ap, ◌∙◌, subst}
use Prim.Native.Nat.{ℕ, ◌≤◌, ◌<◌}
use lib.ListN.{get_or}
use Rattle.timetable_steps.specs.Inner.Steps.{chosen_step}
use Rattle.timetable_steps.proofs.Laws.Steps.{below, heard_had, heard_lacked}
use Rattle.timetable_steps.proofs.heard_step.Goals as goal

pub returns-in-None : goal.returns-in-None
returns-in-None c = simp c.in-None.is

pub chosen_step-requires : goal.chosen_step-requires
chosen_step-requires c = below c.args.a c.requires.0 c.args.s c.args.e _ _ c.chosen_of-chosen.ensures

pub returns-then-o-outcomes : goal.returns-then-o-outcomes
returns-then-o-outcomes c =
    c.chosen_step.ensures ∙ ap (chosen_step c.args.a c.args.e) c.chosen_of-chosen.ensures
    ∙ heard_had c.args.a c.args.outcomes c.args.s c.args.e c.in-Some.o c.args.heard c.in-Some.is (subst (λ (k : ℕ). c.in-Some.o < get_or c.args.outcomes k 0) c.from-i.ensures c.if-o-outcomes.true)

pub returns-in-Some : goal.returns-in-Some
returns-in-Some c =
    heard_lacked c.args.a c.args.outcomes c.args.s c.args.e c.in-Some.o c.args.heard c.in-Some.is (subst (λ (k : ℕ). get_or c.args.outcomes k 0 ≤ c.in-Some.o) c.from-i.ensures c.if-o-outcomes.false)
