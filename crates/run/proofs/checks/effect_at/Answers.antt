-- `effect_at` checks the call and decides what it does.
use mathlib.Core.Path.{sym, ◌∙◌, ap, subst}
use Rattle.run_window.specs.Inner.Search.{SoughtInTime}
use Rattle.run_window.specs.declared.Sought.{Sought}
use Rattle.run.specs.declared.Checked.{Checked}
use Rattle.run.specs.Inner.Effects.{checked_of, effect_of}
use Rattle.run.proofs.Laws.Acting.{sought_timely}
use Rattle.run.proofs.checks.effect_at.Goals as goal

pub check_call-checked-requires : goal.check_call-checked-requires
check_call-checked-requires c = λ g. subst SoughtInTime (sym c.sought_by.ensures) (sought_timely c.args.run c.args.c g)

pub returns : goal.returns
returns c =
    let a = c.args in
    c.effect_of.ensures
    ∙ ap (λ (x : Checked). effect_of a.c x) (c.check_call-checked.ensures ∙ ap (λ (x : Sought). checked_of a.run a.t x) c.sought_by.ensures)
