use Rattle.std.specs.Prelude.{Some}
use mathlib.Core.Path.{sym, ap, ◌∙◌}
use Rattle.run_checks.specs.declared.Stop.{Stop}
use Rattle.held.specs.Held.{held_halt}
use Rattle.held.proofs.halts.hold_halt.Goals as goal

pub returns-in-None : goal.returns-in-None
returns-in-None c = c.stop_as.ensures ∙ sym (ap held_halt c.in-None.is)

pub returns-in-Late : goal.returns-in-Late
returns-in-Late c = c.stop_as-in-Late.ensures ∙ sym (ap (λ (s : Stop). held_halt (Some s)) c.in-Late.is) ∙ sym (ap held_halt c.in-Some.is)

pub returns-in-Overdue : goal.returns-in-Overdue
returns-in-Overdue c = c.stop_as-in-Overdue.ensures ∙ sym (ap (λ (s : Stop). held_halt (Some s)) c.in-Overdue.is) ∙ sym (ap held_halt c.in-Some.is)

pub returns-in-Full : goal.returns-in-Full
returns-in-Full c = c.stop_as-in-Full.ensures ∙ sym (ap (λ (s : Stop). held_halt (Some s)) c.in-Full.is) ∙ sym (ap held_halt c.in-Some.is)

pub returns-in-Beyond : goal.returns-in-Beyond
returns-in-Beyond c = c.stop_as-in-Beyond.ensures ∙ sym (ap (λ (s : Stop). held_halt (Some s)) c.in-Beyond.is) ∙ sym (ap held_halt c.in-Some.is)
