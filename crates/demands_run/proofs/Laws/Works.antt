-- The run of an accepted opening works as demand 3 asks: each call goes one of the eight ways, and the run keeps what it knows.
use Rattle.std.specs.Prelude.{◌≡◌, refl, List, ◌∷◌, true, ℕ, ltb, None}
use Rattle.std.proofs.Common.{sym, ◌∙◌, subst, ⊎_elim}
use Rattle.time.specs.declared.Clock.{Clock}
use Rattle.plan.specs.Plan.{outcomes_of}
use Rattle.plan.specs.declared.Kind.{Kind}
use Rattle.plan.specs.declared.Plan.{Plan}
use Rattle.run_window.specs.Window.{is_started}
use Rattle.run_window.specs.Places.{Holds}
use Rattle.run_window.specs.declared.Entry.{Entry}
use Rattle.run_outcomes.specs.Told.{told_of}
use Rattle.run.specs.Loading.{further, most_pending}
use Rattle.run.specs.declared.Reply.{Reply}
use Rattle.run_checks.specs.declared.Stop.{Stop}
use Rattle.demands_theory.specs.Loading.{Loads}
use Rattle.run.specs.Calls.{kind_of, cleared, call_of}
use Rattle.run.specs.declared.Run.{Run}
use Rattle.run.specs.declared.Call.{Call}
use Rattle.demands_log.specs.Log.{Log, said}
use Rattle.demands_theory.proofs.Laws.Way.{Clear, Way}
use Rattle.demands_theory.proofs.Laws.Works.{Works}
use Rattle.demands_theory.proofs.Laws.OfPlan.{world_of}
use Rattle.demands_theory.proofs.Laws.OfTheLog.{ByTheLog}
use Rattle.demands_theory.specs.TheWord.{state_after}
use Rattle.demands_theory.proofs.Laws.Invariant.{Invariant}
use Rattle.demands_theory.proofs.Laws.TheWord.{takes_follows}
use Rattle.demands_theory.proofs.Laws.World.{orders, lasts}
use Rattle.demands_theory.proofs.Laws.OfRun.{machine}
use Rattle.demands_run.proofs.Laws.Engine.{EngineLaws}
use Rattle.demands_run.proofs.Laws.Stands.{Accepted, Good}
use Rattle.demands_run.proofs.Laws.Ways.{run_of, call_way}
use Rattle.demands_run.proofs.Laws.Many.{room}
use Rattle.demands_run.proofs.Laws.Learn.{learning, learning_says}
use Rattle.demands_run.proofs.Laws.Marked.{marking}
use Rattle.demands_run.proofs.Laws.Words.{there_is}

module _ (laws : EngineLaws) (p : Plan) (psi : Clock) (slack : ℕ) (given : Accepted p psi slack) (available : ℕ → ℕ) where
  abbrev Stays : Log → List ℕ → Call → Run → Type 0
  Stays log is c run = (later : List ℕ) × Way (world_of p available) machine psi.0 slack run (call_of run c).run is later c (call_of run c).reply × Good p psi slack available (said c (call_of run c).reply ∷ log) later (call_of run c).run

  module _ (log : Log) (is : List ℕ) (run : Run) (good : Good p psi slack available log is run) (v : Invariant (world_of p available) machine psi.0 slack is log run) where
    same : run_of p psi slack given available run.progress run.window run.last run.halt ≡ run
    same = λ i. record { plan = sym good.same_plan i; psi = sym good.same_psi i; slack = sym good.same_slack i; progress = run.progress; window = run.window; last = run.last; halt = run.halt }

    here : Good p psi slack available log is (run_of p psi slack given available run.progress run.window run.last run.halt)
    here = record { same_plan = refl; same_psi = refl; same_slack = refl; stands = good.stands; rests = good.rests; within = good.within; whole = good.whole; beyond = good.beyond; full = good.full; long = good.long; entries = good.entries; halt = good.halt }

    v1 : Invariant (world_of p available) machine psi.0 slack is log (run_of p psi slack given available run.progress run.window run.last run.halt)
    v1 = subst (Invariant (world_of p available) machine psi.0 slack is log) (sym same) v

    -- how loading after an accepted outcome ends
    pub loading_says : (t : Clock) (i : ℕ) (e : Entry) (ev o : ℕ) → run.halt ≡ None → Clear psi.0 slack run.last.0 (Holds run.window) t.0 → Holds run.window i e → is_started e.phase ≡ true
        → kind_of run e ≡ Kind.Event ev → ltb o (outcomes_of p ev) ≡ true
        → (us : List ℕ) × Loads p available (said (Call.Outcome t e.position e.node o) Reply.Taken ∷ log) is us (further most_pending (cleared run t i (told_of run.progress ev e o))).failure
    loading_says t i e ev o going calm held started =
        subst (λ (r : Run). kind_of r e ≡ Kind.Event ev → ltb o (outcomes_of p ev) ≡ true → (us : List ℕ) × Loads p available (said (Call.Outcome t e.position e.node o) Reply.Taken ∷ log) is us (further most_pending (cleared r t i (told_of run.progress ev e o))).failure) same
        (λ kind has. learning_says laws p psi slack given available log is run.progress run.window run.last run.halt here v1 t i e ev o going calm held started kind has)

  ways : (log : Log) (is : List ℕ) (run : Run) → Good p psi slack available log is run → Invariant (world_of p available) machine psi.0 slack is log run → (c : Call) → Stays log is c run
  ways log is run good v c =
      subst (Stays log is c) (same log is run good v)
      (call_way p psi slack given available log is run.progress run.window run.last run.halt (here log is run good v)
      (learning laws p psi slack given available log is run.progress run.window run.last run.halt (here log is run good v) (v1 log is run good v))
      (marking p psi slack given available log is run.progress run.window run.last run.halt (here log is run good v) (v1 log is run good v)) (v1 log is run good v) c)

  pub works : Works (world_of p available) machine psi.0 slack (Good p psi slack available)
  works = record {
    one = λ run i e f h k. sym h.entry ∙ k.entry;
    long = λ log is run good. lasts p given.lawful available slack given.long is (state_after p is) (takes_follows p log is good.stands.taken);
    orders = λ log is run good. orders p given.lawful available is (state_after p is) (takes_follows p log is good.stands.taken);
    ways = ways;
  }

  pub by_the_log : (log : Log) (is : List ℕ) (run : Run) → Good p psi slack available log is run → Invariant (world_of p available) machine psi.0 slack is log run → ByTheLog p available log is
  by_the_log log is run good v = record {
    taken = good.stands.taken;
    fits = record {
      rests = good.rests;
      within = good.within;
      room = room p log is run.window good.long (λ x q. ⊎_elim (λ h. h) (λ r. absurd (q.unreported r)) (v.accounts.held x q.node));
    };
    whole = good.whole;
    beyond = λ q. good.beyond (v.stopped Stop.Beyond q);
    full = λ q. good.full (v.stopped Stop.Full q);
    word = there_is p given.lawful given.automaton log laws available is run.progress good.stands;
  }
