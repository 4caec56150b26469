-- The event at a place of the window: a node of the word with that event, before the word's end.
use Rattle.std.specs.Prelude.{◌≡◌, true, List, ℕ, ◌<◌, Option}
use Rattle.std.proofs.Common.{sym, ◌∙◌, subst}
use Rattle.time.specs.declared.Clock.{Clock}
use Rattle.plan.specs.Limits.{KindNames}
use Rattle.plan.specs.declared.Kind.{Kind}
use Rattle.plan.specs.declared.Plan.{Plan}
use Rattle.times_combined.specs.Combined.{Is}
use Rattle.times_combined.specs.Paths.{Follows}
use Rattle.times_combined.proofs.Laws.Plans.{good_path}
use Rattle.times.specs.declared.Progress.{Progress}
use Rattle.run_window.specs.Places.{Holds}
use Rattle.run_window.specs.declared.Entry.{Entry}
use Rattle.run_limits.specs.Window.{entry_in_limits}
use Rattle.run.specs.Calls.{kind_of}
use Rattle.run_checks.specs.declared.Stop.{Stop}
use Rattle.demands_log.specs.Log.{Log}
use Rattle.demands_theory.proofs.Laws.Way.{Agrees}
use Rattle.demands_theory.proofs.Laws.OfPlan.{world_of}
use Rattle.demands_theory.specs.Nodes.{whose, length_of, id_of}
use Rattle.demands_theory.specs.TheWord.{state_after, whole_of}
use Rattle.demands_theory.proofs.Laws.Invariant.{Invariant}
use Rattle.demands_theory.proofs.Laws.TheWord.{takes_follows}
use Rattle.demands_theory.proofs.Laws.World.{old_position}
use Rattle.demands_theory.proofs.Laws.OfRun.{machine}
use Rattle.demands_run.proofs.Laws.Stands.{Accepted, Good}
use Rattle.demands_run.proofs.Laws.Bounds.{entry_within}
use Rattle.demands_run.proofs.Laws.Ways.{run_of}
use Rattle.demands_run.proofs.Laws.Kinds.{kind_is}

module _ (p : Plan) (psi : Clock) (slack : ℕ) (given : Accepted p psi slack) (available : ℕ → ℕ) (log : Log) (is : List ℕ) (g : Progress) (w : List Entry) (last : Clock) (halt : Option Stop)
    (good : Good p psi slack available log is (run_of p psi slack given available g w last halt))
    (v : Invariant (world_of p available) machine psi.0 slack is log (run_of p psi slack given available g w last halt)) where
  pub path : Follows p p.automaton.initial is (state_after p is)
  path = takes_follows p log is good.stands.taken

  module _ (i : ℕ) (e : Entry) (ev : ℕ) (held : Holds w i e) (kind : kind_of (run_of p psi slack given available g w last halt) e ≡ Kind.Event ev) where
    pub agrees : Agrees (world_of p available) is e
    agrees = v.accounts.agree i e held

    pub event : Is (whole_of p is) (whose (id_of e)) (Kind.Event ev)
    event =
        let n = agrees.node in
        let k = kind_is p is (good_path p given.lawful p.automaton.initial is (state_after p is) path) e.position e.activity agrees.activity e.node n.0 n.1.0 n.1.1 in
        (n.1.0, subst (λ (z : Kind). (whole_of p is).Holds (whose (id_of e)) z n.1.0) (sym k ∙ kind) n.1.1)

    pub low : ev < p.events
    low =
        let r = entry_within p.activities p.sizes e held.held (subst (λ (x : Entry). entry_in_limits p.activities p.sizes x ≡ true) held.entry (good.entries i)) in
        subst (KindNames p) kind (given.lawful.file.limits.nodes e.activity e.node r.activity r.node).names

    pub inside : e.position < length_of is
    inside = old_position p given.lawful available is (state_after p is) path (id_of e) agrees.node
