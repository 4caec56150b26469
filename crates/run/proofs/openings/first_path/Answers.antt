-- `first_path` refuses a plan with a short activity (33), and else loads the first path.
use mathlib.Core.Path.{sym, ap, ◌∙◌, subst}
use mathlib.Core.List.{List}
use Prim.Native.Nat.{ℕ}
use Rattle.time.specs.declared.Clock.{Clock}
use Rattle.time.specs.declared.Specified.{Specified}
use Rattle.plan.specs.declared.Plan.{Plan}
use Rattle.times.specs.declared.Progress.{Progress}
use Rattle.run.specs.declared.Run.{Run}
use Rattle.run.specs.declared.Unopened.{Unopened}
use Rattle.run_loading.specs.Inner.Loading.{Loads}
use Rattle.run_opening.specs.Given.{at_first, availabilities}
use Rattle.run_opening.specs.Short.{short_from}
use Rattle.run.specs.Opening.{fresh, unopened, begin}
use Rattle.run.specs.Inner.Calls.{first_path}
use Rattle.run.proofs.Opens.{first_loads, begins, none_short, one_short}
use Rattle.run.proofs.openings.first_path.Goals as goal

abbrev first : Plan → Clock → ℕ → List ℕ → Run
first p psi slack ts = fresh p psi slack (at_first (availabilities ts) p.automaton.initial)

pub returns-in-Some : goal.returns-in-Some
unfolding first_path
returns-in-Some c =
    let s = c.args in
    let q = c.short_from-short in
    c.unopened.ensures
    ∙ sym (one_short (short_from s.plan s.slack 0 s.plan.activities) (λ a. unopened (Unopened.Short a)) (begin (first s.plan s.psi s.slack s.ts.now)) q.result q.ensures _ c.in-Some.is)

pub first-loading-requires : goal.first-loading-requires
first-loading-requires c =
    subst (Loads c.args.plan) (sym (c.at_first-progress.ensures ∙ ap (λ (x : List Specified). at_first x c.args.plan.automaton.initial) c.given-available.ensures))
    (first_loads c.args.plan c.requires.in_limits c.args.ts.now c.requires.ts_value)

pub returns-in-None : goal.returns-in-None
unfolding first_path
returns-in-None c =
    let s = c.args in
    let q = c.short_from-short in
    c.after_first.ensures
    ∙ begins s.plan s.psi s.slack c.at_first-progress.result c.first-loading.result c.first-loading.ensures
    ∙ ap (λ (x : Progress). begin (fresh s.plan s.psi s.slack x)) (c.at_first-progress.ensures ∙ ap (λ (x : List Specified). at_first x s.plan.automaton.initial) c.given-available.ensures)
    ∙ sym (none_short (short_from s.plan s.slack 0 s.plan.activities) (λ a. unopened (Unopened.Short a)) (begin (first s.plan s.psi s.slack s.ts.now)) q.result q.ensures c.in-None.is)
