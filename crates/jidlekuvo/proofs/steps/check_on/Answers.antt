-- `check_on` says what the checks say of the run that the numbers stand for.
use Rattle.std.specs.Prelude.{Option}
use mathlib.Core.Path.{◌≡◌, refl, sym, ◌∙◌, ap, subst}
use Rattle.run_window.specs.declared.Sought.{Sought}
use Rattle.run_window.specs.Inner.Search.{SoughtInTime}
use Rattle.run_checks.specs.declared.Stop.{Stop}
use Rattle.run_checks.specs.declared.Moment.{Moment}
use Rattle.run.specs.declared.Run.{Run}
use Rattle.run.specs.Calls.{reading_of}
use Rattle.run.specs.Inner.Effects.{sought_by}
use Rattle.held.specs.declared.Held.{Held}
use Rattle.held.specs.Held.{progress_of, halt_of, run_of}
use Rattle.held_checks.specs.Inner.Checks.{all_but_nodes, check_seen, check_nodes_last}
use Rattle.held_checks.proofs.Laws.Checks.{all_timed, all_sought, seen_checked}
use Rattle.jidlekuvo.proofs.Stepping.{run_in, by_parts}
use Rattle.jidlekuvo.proofs.steps.check_on.Goals as goal

-- ---- the run

-- ---- what the checks say

pub look-seen-requires : goal.look-seen-requires
look-seen-requires c =
    let moment : Moment = c.moment_of-m.result in
    let held : Held = let a = c.args in record { rest = a.rest; plan = a.plan } in
    let given : Run = run_in (held) (progress_of (held).rest.progress) (moment) (halt_of (held).rest.halt) in
    let same : given ≡ run_of (held) = by_parts (held) c.args.c _ _ _ refl c.moment_of-m.ensures refl in
    let limits : c.args.limits ≡ all_but_nodes (given) = c.requires ∙ sym (ap all_but_nodes (same)) in
    λ q.
    let g = sym (limits) ∙ q in
    (all_timed (given) g (moment).t, subst SoughtInTime (sym c.sought_by-sought.ensures) (all_sought (given) g c.args.c))

pub returns : goal.returns
unfolding run_of
returns c =
    let moment : Moment = c.moment_of-m.result in
    let held : Held = let a = c.args in record { rest = a.rest; plan = a.plan } in
    let given : Run = run_in (held) (progress_of (held).rest.progress) (moment) (halt_of (held).rest.halt) in
    let same : given ≡ run_of (held) = by_parts (held) c.args.c _ _ _ refl c.moment_of-m.ensures refl in
    let limits : c.args.limits ≡ all_but_nodes (given) = c.requires ∙ sym (ap all_but_nodes (same)) in
    let l = c.look-seen in
    let call = c.args.c in
    c.check_call.ensures
    ∙ ap (λ (x : Option Stop). check_seen c.args.limits x (moment) l.result) c.halt_of-halt.ensures
    ∙ seen_checked (given) (moment).t c.sought_by-sought.result c.args.limits l.result (limits) l.ensures
    ∙ ap (λ (x : Sought). check_nodes_last (given) (moment).t x) c.sought_by-sought.ensures
    ∙ ap (λ (m : Moment). check_nodes_last (given) m.t (sought_by (moment).psi call)) c.moment_of-m.ensures
    ∙ ap (λ (r : Run). check_nodes_last r (reading_of call) (sought_by r.psi call)) (same)
