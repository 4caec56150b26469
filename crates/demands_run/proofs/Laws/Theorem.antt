-- Demand 3 of the run of document 01: after an accepted opening and any list of calls there is a word of the log, and only one,
-- it has specified times, and the claim holds of it.
use Rattle.std.specs.Prelude.{◌≡◌, true, List, [], ◌∷◌, ℕ, ltb, length, get_or, None}
use Rattle.std.proofs.Common.{sym, ap, ◌∙◌, subst}
use Rattle.time.specs.declared.Clock.{Clock}
use Rattle.plan.specs.Plan.{outcomes_of}
use Rattle.plan.specs.declared.Kind.{Kind}
use Rattle.plan.specs.declared.Plan.{Plan}
use Rattle.run_window.specs.Window.{is_started}
use Rattle.run_window.specs.Places.{Holds}
use Rattle.run_window.specs.declared.Entry.{Entry}
use Rattle.run_outcomes.specs.Told.{told_of}
use Rattle.run.specs.Limits.{run_in_limits}
use Rattle.run.specs.Loading.{further, most_pending}
use Rattle.run.specs.Calls.{kind_of, cleared}
use Rattle.run.specs.declared.Run.{Run}
use Rattle.run.specs.declared.Reply.{Reply}
use Rattle.demands_log.specs.Log.{FailedIn, said}
use Rattle.run.specs.Opening.{open_of}
use Rattle.run.specs.declared.Call.{Call}
use Rattle.run.specs.declared.Opening.{Opening}
use Rattle.demands_log.specs.Drive.{Driven, drive}
use Rattle.demands_log.specs.Kept.{Keeps}
use Rattle.demands_theory.specs.Demand.{Demand3}
use Rattle.demands_theory.proofs.Laws.OfTheLog as OfTheLog
use Rattle.demands_theory.specs.Loading.{Loads}
use Rattle.demands_theory.proofs.Laws.Way.{Clear}
use Rattle.demands_theory.proofs.Laws.OfPlan.{world_of}
use Rattle.demands_theory.proofs.Laws.OfRun.{machine}
use Rattle.demands_theory.specs.TheWord.{state_after, whole_of, TheWord}
use Rattle.demands_theory.proofs.Laws.Invariant.{Invariant}
use Rattle.times_combined.specs.Combined.{Ident}
use Rattle.times_combined.specs.Times.{Timing}
use Rattle.automaton.specs.Rules.{MeetsAutomaton}
use Rattle.times_combined.specs.Paths.{Lawful}
use Rattle.format.specs.Writing.{Bytes}
use Rattle.demands_run.proofs.Laws.Stands.{Good}
use Rattle.demands_run.proofs.Laws.Bounds.{run_passes}
use Rattle.demands_run.proofs.Laws.Works.{works, by_the_log, loading_says}
use Rattle.demands_run.proofs.Laws.Opening.{OpensWell, opens_well}
use Rattle.demands_run.proofs.Laws.EngineHolds.{engine_laws}
use Rattle.demands_run.proofs.Laws.AcceptedHolds.{accepted_laws}

module _ (bytes : List ℕ) (are : Bytes bytes) (psi : Clock) (slack : ℕ) (ts : List ℕ) (opened : (open_of bytes psi slack ts).opening ≡ Opening.Opened) (cs : List Call) where
  -- the plan of the run, the availabilities of the opening, and the run after the calls with their log
  abbrev pub plan : Plan
  plan = (open_of bytes psi slack ts).run.plan

  abbrev pub available : ℕ → ℕ
  available r = get_or ts r 0

  abbrev pub driven : Driven
  driven = drive [] (open_of bytes psi slack ts).run cs

  well : OpensWell psi slack ts (open_of bytes psi slack ts)
  well = opens_well engine_laws bytes (accepted_laws bytes are) psi slack ts opened

  pub lawful : Lawful plan
  lawful = well.given.lawful

  pub automaton : MeetsAutomaton plan
  automaton = well.given.automaton

  -- what is loaded after the calls
  after : (v : List ℕ) × Good plan psi slack available driven.log v driven.run × Invariant (world_of plan available) machine psi.0 slack v driven.log driven.run
  after =
      OfTheLog.after plan lawful available psi.0 slack (Good plan psi slack available) (works engine_laws plan psi slack well.given available) (by_the_log engine_laws plan psi slack well.given available)
      well.word (open_of bytes psi slack ts).run well.opened cs

  -- "the run keeps it"
  pub kept : Keeps plan psi slack driven.run
  kept = let g = after.1 in record { same_plan = g.same_plan; same_psi = g.same_psi; same_slack = g.same_slack }

  pub window_long : length driven.run.window ≡ 512
  window_long = after.1.long

  pub in_limits_lem : run_in_limits driven.run ≡ true
  in_limits_lem =
      let g = after.1 in
      subst (λ (r : Run). run_in_limits r ≡ true) (λ i. record { plan = sym g.same_plan i; psi = sym g.same_psi i; slack = sym g.same_slack i; progress = driven.run.progress; window = driven.run.window; last = driven.run.last; halt = driven.run.halt })
      (run_passes plan psi slack well.given driven.run.progress driven.run.window driven.run.last driven.run.halt g.stands.within g.entries g.halt)

  -- unless a loading has failed, the word of the log is loaded
  module _ (nf : FailedIn driven.log → ⊥) (is : List ℕ) (w : TheWord plan driven.log is) where
    loaded : after.0 ≡ is
    loaded = let g = after.1 in OfTheLog.one plan lawful available psi.0 slack (Good plan psi slack available) (works engine_laws plan psi slack well.given available) (by_the_log engine_laws plan psi slack well.given available)
        well.word (open_of bytes psi slack ts).run well.opened cs after.0 is (record { taken = g.stands.taken; whole = g.whole nf }) w

    pub place : driven.run.progress.state ≡ state_after plan is
    place = after.1.stands.place ∙ ap (state_after plan) loaded

    pub loading : (t : Clock) (i : ℕ) (e : Entry) (ev o : ℕ) → driven.run.halt ≡ None → Clear psi.0 slack driven.run.last.0 (Holds driven.run.window) t.0 → Holds driven.run.window i e → is_started e.phase ≡ true
        → kind_of driven.run e ≡ Kind.Event ev → ltb o (outcomes_of plan ev) ≡ true
        → (us : List ℕ) × Loads plan available (said (Call.Outcome t e.position e.node o) Reply.Taken ∷ driven.log) is us (further most_pending (cleared driven.run t i (told_of driven.run.progress ev e o))).failure
    loading t i e ev o going calm held started kind has =
        subst (λ (z : List ℕ). (us : List ℕ) × Loads plan available (said (Call.Outcome t e.position e.node o) Reply.Taken ∷ driven.log) z us (further most_pending (cleared driven.run t i (told_of driven.run.progress ev e o))).failure) loaded
        (loading_says engine_laws plan psi slack well.given available driven.log after.0 driven.run after.1 after.2 t i e ev o going calm held started kind has)

  pub the_word : (is : List ℕ) × TheWord plan driven.log is
  the_word =
      OfTheLog.the_word plan lawful available psi.0 slack (Good plan psi slack available) (works engine_laws plan psi slack well.given available) (by_the_log engine_laws plan psi slack well.given available)
      well.word (open_of bytes psi slack ts).run well.opened cs

  pub one : (is us : List ℕ) → TheWord plan driven.log is → TheWord plan driven.log us → is ≡ us
  one =
      OfTheLog.one plan lawful available psi.0 slack (Good plan psi slack available) (works engine_laws plan psi slack well.given available) (by_the_log engine_laws plan psi slack well.given available)
      well.word (open_of bytes psi slack ts).run well.opened cs

  pub times : (is : List ℕ) → TheWord plan driven.log is → (S : Ident → ℕ) × (C : Ident → ℕ) × Timing (whole_of plan is) available S C
  times =
      OfTheLog.times plan lawful available psi.0 slack (Good plan psi slack available) (works engine_laws plan psi slack well.given available) (by_the_log engine_laws plan psi slack well.given available)
      well.word (open_of bytes psi slack ts).run well.opened cs

  pub of_the_log : (is : List ℕ) → TheWord plan driven.log is → (S C : Ident → ℕ) → Timing (whole_of plan is) available S C → Demand3 plan psi.0 slack available is S C driven
  of_the_log =
      OfTheLog.of_the_log plan lawful available psi.0 slack (Good plan psi slack available) (works engine_laws plan psi slack well.given available) (by_the_log engine_laws plan psi slack well.given available)
      well.word (open_of bytes psi slack ts).run well.opened cs
