-- The report of a marker goes its way: the word stays, nothing is loaded, and the place is free again.
use Rattle.std.specs.Prelude.{◌≡◌, refl, true, List, ◌∷◌, ℕ, set, None, Option}
use Rattle.std.proofs.Common.{sym, ◌∙◌, inl, inr, ltb-true, eqb-true, length-set}
use Rattle.time.specs.declared.Clock.{Clock}
use Rattle.plan.specs.declared.Plan.{Plan}
use Rattle.times.specs.declared.Progress.{Progress}
use Rattle.run_window.specs.Window.{vacant}
use Rattle.run_window.specs.Places.{Holds}
use Rattle.run_window.specs.declared.Entry.{Entry}
use Rattle.run_window.proofs.Laws.Places.{stored_kept, stored_each, cleared_only}
use Rattle.run_limits.specs.Window.{entry_in_limits}
use Rattle.run_checks.specs.declared.Stop.{Stop}
use Rattle.run.specs.declared.Call.{Call}
use Rattle.run.specs.declared.Reply.{Reply}
use Rattle.demands_log.specs.Log.{Log, said}
use Rattle.demands_theory.specs.Nodes.{id_of}
use Rattle.demands_theory.proofs.Laws.Machine.{World}
use Rattle.demands_theory.proofs.Laws.Way.{learns}
use Rattle.demands_theory.proofs.Laws.Way as Way
use Rattle.demands_theory.proofs.Laws.OfPlan.{world_of}
use Rattle.demands_theory.proofs.Laws.Invariant.{Invariant}
use Rattle.demands_theory.proofs.Laws.Growth.{extends_self}
use Rattle.demands_theory.proofs.Laws.Replies.{not_going}
use Rattle.demands_theory.proofs.Laws.OfRun.{machine}
use Rattle.demands_run.proofs.Laws.Stands.{Accepted, Good}
use Rattle.demands_run.proofs.Laws.Bounds.{vacant_passes}
use Rattle.demands_run.proofs.Laws.Ways.{run_of, Marking}
use Rattle.demands_run.proofs.Laws.EventAt.{event, low, inside}
use Rattle.demands_run.proofs.Laws.Informed.{stands_marked}
use Rattle.demands_run.proofs.Laws.Apart.{stuck_marked}

module _ (p : Plan) (psi : Clock) (slack : ℕ) (given : Accepted p psi slack) (available : ℕ → ℕ) (log : Log) (is : List ℕ) (g : Progress) (w : List Entry) (last : Clock) (halt : Option Stop)
    (good : Good p psi slack available log is (run_of p psi slack given available g w last halt))
    (v : Invariant (world_of p available) machine psi.0 slack is log (run_of p psi slack given available g w last halt)) where
  abbrev W : World
  W = world_of p available

  -- place i is cleared, and nothing else changes
  loads_nothing : (i floor : ℕ) → Way.Loads W (Holds w) (Holds (set w i vacant)) i floor is is
  loads_nothing i floor = record {
    extends = extends_self W is;
    kept = λ j y n q. stored_kept w i vacant j y n q;
    only = λ j y q. inl (cleared_only w i j y q);
    distinct = λ j k y z q r s. v.accounts.distinct j k y z (cleared_only w i j y q).1 (cleared_only w i k z r).1 s;
    all = λ x n. inl n;
  }

  pub marking : Marking p psi slack given available log is g w last halt good
  marking t i e ev o going calm held started kind has marker =
      (is, learns i e None (record { going = going; last = refl; halt = refl }) calm held started (loads_nothing i e.end.0), after)
    where
      after : Good p psi slack available (said (Call.Outcome t e.position e.node o) Reply.Taken ∷ log) is (run_of p psi slack given available g (set w i vacant) t None)
      after =
          let at = event p psi slack given available log is g w last halt good v i e ev held kind in
          let before = inside p psi slack given available log is g w last halt good v i e ev held kind in
          let names = low p psi slack given available log is g w last halt good v i e ev held kind in
          record {
            same_plan = refl;
            same_psi = refl;
            same_slack = refl;
            stands = stands_marked p given.lawful given.automaton available log is g good.stands e ev o at before names (ltb-true _ _ has) t Reply.Taken tt (eqb-true _ _ marker);
            rests = good.rests;
            within = good.within;
            whole = λ nf. stuck_marked p given.lawful log is good.stands.taken (id_of e) ev at (eqb-true _ _ marker) given.automaton (Call.Outcome t e.position e.node o) Reply.Taken (λ y u q. q.0) (good.whole (λ q. nf (inr q)));
            beyond = λ z. absurd (not_going _ (sym z));
            full = λ z. absurd (not_going _ (sym z));
            long = length-set w i vacant ∙ good.long;
            entries = stored_each (λ x. entry_in_limits p.activities p.sizes x ≡ true) w i vacant good.entries (vacant_passes p.activities p.sizes);
            halt = refl;
          }
