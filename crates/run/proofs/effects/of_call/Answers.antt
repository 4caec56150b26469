-- `of_call` goes by the call.
use Rattle.std.specs.Prelude.{Result}
use mathlib.Core.Path.{sym, ◌∙◌, ap}
use Rattle.run_window.specs.declared.Found.{Found}
use Rattle.run_checks.specs.declared.Refusal.{Refusal}
use Rattle.run_checks.specs.Inner.Report.{on_report}
use Rattle.run_checks.proofs.Laws.Checks.{reported_said}
use Rattle.run.specs.Inner.Effects.{refusing, completes_by, learns_as}
use Rattle.run.proofs.effects.of_call.Goals as goal

pub returns-in-Completion : goal.returns-in-Completion
returns-in-Completion c = let a = c.args in
    rw c.in-Completion.is
    (c.of_completion.ensures
    ∙ (ap (λ (x : Result Found Refusal). on_report x (λ i e. completes_by i a.kind) refusing) c.report_of.ensures
    ∙ sym (reported_said (λ i e. completes_by i a.kind) refusing a.found)))

pub returns-in-Outcome : goal.returns-in-Outcome
returns-in-Outcome c = let a = c.args in
    let o = c.in-Outcome.o in
    rw c.in-Outcome.is
    (c.of_outcome.ensures
    ∙ (ap (λ (x : Result Found Refusal). on_report x (λ i e. learns_as i e o a.most a.kind) refusing) c.report_of-in-Outcome.ensures
    ∙ sym (reported_said (λ i e. learns_as i e o a.most a.kind) refusing a.found)))
