-- `vacancies` counts the free places.
use Rattle.std.proofs.Common.{rules, ◌≡◌, ◌∙◌, sym}
use Rattle.std.specs.List.{count_by}
use Rattle.run_window.specs.declared.Entry.{Entry}
use Rattle.run_window.specs.Window.{is_free}
use Rattle.run_window.proofs.Laws.Scans.{vacancies_is}
use Rattle.run_window.proofs.places.vacancies.Goals as goal

pub returns : goal.returns
returns c =
    let told : c.count.result ≡ count_by (λ (e : Entry). is_free e.phase) c.args.window = search rules in
    told ∙ sym (vacancies_is c.args.window)
