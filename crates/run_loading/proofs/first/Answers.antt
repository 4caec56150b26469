-- `first` loads the first path, from the initial state.
use mathlib.Core.Path.{sym, ap, ◌∙◌, subst}
use lib.ListN.{replicate}
use Rattle.automaton.specs.declared.Next.{Next}
use Rattle.run_window.specs.Window.{vacant}
use Rattle.run_window.specs.declared.Entry.{Entry}
use Rattle.run_path.specs.Pathed.{Leads}
use Rattle.run_path.proofs.Laws.Stepping.{next_leads}
use Rattle.run_loading.specs.Loading.{loading, load}
use Rattle.run_loading.specs.Inner.Loading.{Loadable}
use Rattle.run_loading.proofs.Laws.Loading.{first_failed, first_placed}
use Rattle.run_loading.proofs.first.Goals as goal

pub next_of-next-requires : goal.next_of-next-requires
next_of-next-requires c = c.requires.plan.transitions

pub path-found-requires : goal.path-found-requires
path-found-requires c =
    let able : Loadable c.args.plan c.args.progress c.next_of-next.result = record { loads = c.requires; leads = subst (Leads c.args.plan.automaton.count) (sym c.next_of-next.ensures) (next_leads c.args.plan.automaton c.args.plan.automaton.initial) } in
    let k = able in record { in_limits = k.loads.plan; leads = k.leads; progress_in = k.loads.progress }

pub returns-then-is_some : goal.returns-then-is_some
returns-then-is_some c =
    let able : Loadable c.args.plan c.args.progress c.next_of-next.result = record { loads = c.requires; leads = subst (Leads c.args.plan.automaton.count) (sym c.next_of-next.ensures) (next_leads c.args.plan.automaton c.args.plan.automaton.initial) } in
    let f = c.failure_of-failure in
    c.ended.ensures
    ∙ ap (λ (x : Entry). loading f.result c.args.progress (replicate 512 x)) c.vacant.ensures
    ∙ first_failed c.args.plan c.next_of-next.result c.args.progress (able) _ c.path-found.ensures f.result f.ensures (sym c.is_some.ensures ∙ c.if-is_some.true)
    ∙ ap (λ (x : Next). load c.args.plan x c.args.progress (replicate 512 vacant)) c.next_of-next.ensures

pub returns : goal.returns
returns c =
    let able : Loadable c.args.plan c.args.progress c.next_of-next.result = record { loads = c.requires; leads = subst (Leads c.args.plan.automaton.count) (sym c.next_of-next.ensures) (next_leads c.args.plan.automaton c.args.plan.automaton.initial) } in
    let f = c.failure_of-failure in
    c.ended-2.ensures
    ∙ first_placed c.args.plan c.next_of-next.result c.args.progress (able) _ c.path-found.ensures f.result f.ensures (sym c.is_some.ensures ∙ c.if-is_some.false)
    ∙ ap (λ (x : Next). load c.args.plan x c.args.progress (replicate 512 vacant)) c.next_of-next.ensures
