-- `answers_by_log`: from `replies`, demand 3, and how loading goes over words.
use Rattle.std.specs.Prelude.{◌≡◌, refl, true, false, List, ◌∷◌, ◌↔◌, ℕ, ◌+◌, ◌≤◌, ◌<◌, ltb, get_or, Option, None}
use Rattle.std.proofs.Common.{sym, ap, ◌∙◌, subst, ⊎_elim, arith, lt-ltb}
use Rattle.time.specs.declared.Clock.{Clock}
use Rattle.plan.specs.Plan.{outcomes_of}
use Rattle.plan.specs.declared.Kind.{Kind}
use Rattle.plan.specs.declared.Plan.{Plan}
use Rattle.automaton.specs.Rules.{MeetsAutomaton}
use Rattle.times_combined.specs.Combined.{Ident}
use Rattle.times_combined.specs.Paths.{Lawful}
use Rattle.times_combined.specs.Times.{Timing}
use Rattle.run_window.specs.Window.{is_started}
use Rattle.run_window.specs.Places.{Holds}
use Rattle.run_window.proofs.Laws.Tests.{started_true}
use Rattle.run_window.specs.declared.Entry.{Entry}
use Rattle.run_outcomes.specs.Told.{told_of}
use Rattle.judge.specs.Judge.{judge_of}
use Rattle.run.specs.Loading.{further, most_pending}
use Rattle.run.specs.Opening.{open_of}
use Rattle.run.specs.Calls.{call_of, kind_of, cleared}
use Rattle.run.specs.declared.Run.{Run}
use Rattle.run_checks.specs.declared.Stop.{Stop}
use Rattle.run.specs.declared.Call.{Call}
use Rattle.run.specs.declared.Reply.{Reply}
use Rattle.run.specs.declared.Answer.{Answer}
use Rattle.run_loading.specs.declared.Failure.{Failure}
use Rattle.run.specs.declared.Opening.{Opening}
use Rattle.demands_log.specs.Log.{Id, Log, said, Reported, Told, StoppedIn, StoppedBy, FailedIn}
use Rattle.demands_log.specs.Kept.{Keeps}
use Rattle.demands_log.proofs.Laws.Kept.{plan_kept}
use Rattle.demands_theory.proofs.Laws.Way.{Clear}
use Rattle.demands_theory.specs.Demand.{Demand3}
use Rattle.demands_theory.specs.Loading.{Loads}
use Rattle.demands_theory.specs.TheWord.{state_after, whole_of, TheWord}
use Rattle.demands_theory.proofs.Laws.Replies.{failed_by}
use Rattle.demands_theory.proofs.Laws.TheWord.{told_once}
use Rattle.demands_run.proofs.Laws.Later.{takes_more}
use Rattle.demands_run.proofs.Laws.Ways.{held_loaded}
use Rattle.demands_run.proofs.Laws.OneLoading.{one_loading}
use Rattle.demands_run.proofs.Laws.Theorem as Works
use Rattle.demands.specs.Accepted.{Bytes}
use Rattle.demands.specs.Demand3.{driven_by}
use Rattle.demands.proofs.Laws.InLimitsIff.{in_limits_lem}
use Rattle.demands.proofs.Laws.Unchanged.{stop_kept}
use Rattle.demands.specs.Conditions.{entry_at, loading_after}
use Rattle.demands.specs.Conditions as Places
use Rattle.demands.proofs.Laws.ConditionsHold.{replies}
use Rattle.demands.specs.ByLog.{Known, Refuses, Asks, After, Halts, Takes as Taken, Answered}
use Rattle.demands.proofs.Laws.ByLogPlaces.{known, of_word}
use Rattle.demands.proofs.Laws.ByLogConditions.{stopped_by_lem, stopped_in, same_condition}
use Rattle.demands.proofs.Laws.AfterCalls.{after_opening}
use Rattle.demands.proofs.Laws.AfterCalls as AfterCalls
use Rattle.demands.specs.AnswersByLog.{StatementAnswersByLog}

-- ---- what is known of the run, in terms of a plan, Ψ and slack

record Facts (run : Run) (log : Log) (is : List ℕ) (S C : Ident → ℕ) (available : ℕ → ℕ) (p : Plan) (psi slack : ℕ) : Type 0 where
  claim : Demand3 p psi slack available is S C (record { log = log; run = run })
  lawful : Lawful p
  automaton : MeetsAutomaton p
  word : TheWord p log is
  place : run.progress.state ≡ state_after p is
  loads : (t : Clock) (i : ℕ) (e : Entry) (ev o : ℕ) → run.halt ≡ None → Clear psi slack run.last.0 (Holds run.window) t.0 → Holds run.window i e → is_started e.phase ≡ true
      → kind_of run e ≡ Kind.Event ev → ltb o (outcomes_of p ev) ≡ true
      → (us : List ℕ) × Loads p available (said (Call.Outcome t e.position e.node o) Reply.Taken ∷ log) is us (further most_pending (cleared run t i (told_of run.progress ev e o))).failure

module _ (run : Run) (log : Log) (is : List ℕ) (S C : Ident → ℕ) (available : ℕ → ℕ) (nf : FailedIn log → ⊥) (a : AfterCalls.After log run) (f : Facts run log is S C available run.plan run.psi.0 run.slack) where
  abbrev K : Known
  K = known run log is S C available f.claim nf

  calm : (t : Clock) → Places.Timely run t → Clear run.psi.0 run.slack run.last.0 (Holds run.window) t.0
  calm t y = record {
    rises = y.not_overdue.rises.rises;
    not_overdue = λ i e h s. overdue i e h s;
    not_late = λ i e h s. late i e h s;
  }
    where
      overdue : (i : ℕ) (e : Entry) → Holds run.window i e → is_started e.phase ≡ true → t.0 < run.psi.0 + e.end.0
      overdue i e h s =
          let n : (run.psi.0 + e.end.0 ≤ t.0 → ⊥) = λ l. y.not_overdue.none i (record { started = ap (λ (x : Entry). x.phase) h.entry ∙ started_true e.phase s; past = (let z = ap (λ (x : Entry). x.end.0) h.entry in omega arith) }) in
          omega arith

      late : (i : ℕ) (e : Entry) → Holds run.window i e → is_started e.phase ≡ false → t.0 ≤ run.psi.0 + e.start.0 + run.slack
      late i e h s =
          let n : (run.psi.0 + e.start.0 + run.slack < t.0 → ⊥) = λ l. y.none i (record { unstarted = ap (λ (x : Entry). x.phase) h.entry ∙ held_loaded e.phase h.held s; past = (let z = ap (λ (x : Entry). x.start.0) h.entry in omega arith) }) in
          omega arith

  -- how loading after an accepted outcome ends
  ends : (t : Clock) (p n o i e : ℕ) → Places.Learns run t p n o i e → After K (Call.Outcome t p n o) (loading_after run t o i e)
  ends t p n o i e l =
      let m = l.reports.named.has in
      subst (λ (x : Id). (us : List ℕ) × Loads run.plan available (said (Call.Outcome t x.position x.node o) Reply.Taken ∷ log) is us (loading_after run t o i e)) (λ k. record { position = m.position k; node = m.node k })
      (f.loads t i (entry_at run i) e o l.reports.timely.not_overdue.rises.going.going (calm t l.reports.timely) (record { entry = refl; held = m.held }) (ap is_started l.reports.started) l.event (lt-ltb _ _ l.has))

  unique : (t : Clock) (p n o i e : ℕ) → Places.Learns run t p n o i e → (x : Id) (u q : ℕ) → Told (said (Call.Outcome t p n o) Reply.Taken ∷ log) x u → Told (said (Call.Outcome t p n o) Reply.Taken ∷ log) x q → u ≡ q
  unique t p n o i e l =
      let m = l.reports.named.has in
      told_once (said (Call.Outcome t p n o) Reply.Taken ∷ log)
      (λ x q r. (of_word run log is S C available f.claim nf i m.held).unreported (subst (Reported log) (sym q.0 ∙ (λ k. record { position = sym m.position k; node = sym m.node k })) r), f.claim.reported_once)

  loading : (t : Clock) (p n o i e : ℕ) → Places.Learns run t p n o i e → (g : Option Failure) → (loading_after run t o i e ≡ g) ↔ After K (Call.Outcome t p n o) g
  loading t p n o i e l g = (
    λ q. subst (After K (Call.Outcome t p n o)) q (ends t p n o i e l),
    λ q. (one_loading run.plan f.lawful available (said (Call.Outcome t p n o) Reply.Taken ∷ log) (unique t p n o i e l) (takes_more run.plan log (said (Call.Outcome t p n o) Reply.Taken) is f.word.taken) (ends t p n o i e l).1 q.1).1,
  )

  answers : (c : Call) (r : Reply) → ((call_of run c).reply ≡ r) ↔ Answered K c r
  answers c r =
      let x = replies run c r in
      let y = same_condition run log is S C available f.claim nf f.lawful f.automaton f.word a.limits f.place a.last a.halted loading c r in
      (λ q. y.0 (x.0 q), λ q. x.1 (y.1 q))

-- ---- a run that has stopped

-- every other condition is of a run that goes
only_kept : (k : Known) → StoppedIn k.log → (c : Call) (r : Reply) → Answered k c r → (s : Stop) × StoppedBy k.log s × (r ≡ Reply.Stopped s)
only_kept k q c (Reply.Start p a n) (Asks.starts t f e) = absurd (t.not_overdue.rises.going q)
only_kept k q c Reply.Wait (Asks.waits t n e) = absurd (t.not_overdue.rises.going q)
only_kept k q c Reply.Done (Asks.done t e) = absurd (t.not_overdue.rises.going q)
only_kept k q c Reply.Taken (Taken.completion x h r a) = absurd (r.timely.not_overdue.rises.going q)
only_kept k q c Reply.Taken (Taken.outcome e l a) = absurd (l.reports.timely.not_overdue.rises.going q)
only_kept k q c (Reply.Refused _) (Refuses.number51 n l) = absurd (n q)
only_kept k q c (Reply.Refused _) (Refuses.number52 x t n o) = absurd (t.not_overdue.rises.going q)
only_kept k q c (Reply.Refused _) (Refuses.number53 x t n o u) = absurd (t.not_overdue.rises.going q)
only_kept k q c (Reply.Refused _) (Refuses.number54 x h r n) = absurd (r.timely.not_overdue.rises.going q)
only_kept k q c (Reply.Refused _) (Refuses.number55 x e r l) = absurd (r.timely.not_overdue.rises.going q)
only_kept k q c (Reply.Stopped s) (Halts.kept b) = (s, b, refl)
only_kept k q c (Reply.Stopped s) (Halts.number42 r f) = absurd (r.going q)
only_kept k q c (Reply.Stopped s) (Halts.number41 r f) = absurd (r.rises.going q)
only_kept k q c (Reply.Stopped s) (Halts.number43 e l a) = absurd (l.reports.timely.not_overdue.rises.going q)
only_kept k q c (Reply.Stopped s) (Halts.number44 e l a) = absurd (l.reports.timely.not_overdue.rises.going q)

-- ---- the theorem

module _ (bytes : List ℕ) (are : Bytes bytes) (psi : Clock) (slack : ℕ) (ts : List ℕ) (opened : (open_of bytes psi slack ts).opening ≡ Opening.Opened) (cs : List Call) (is : List ℕ) where
  abbrev run : Run
  run = (driven_by bytes psi slack ts cs).run

  abbrev log : Log
  log = (driven_by bytes psi slack ts cs).log

  abbrev available : ℕ → ℕ
  available r = get_or ts r 0

  abbrev known_by : Plan → ℕ → ℕ → (S C : Ident → ℕ) → Known
  known_by p psi slack S C = record { plan = p; psi = psi; slack = slack; available = available; word = is; S = S; C = C; log = log }

  abbrev Goal : Plan → Type 0
  Goal p = TheWord p log is → (S C : Ident → ℕ) → Timing (whole_of p is) available S C → (c : Call) (r : Reply) → ((call_of run c).reply ≡ r) ↔ Answered (known_by p psi.0 slack S C) c r

  after : AfterCalls.After log run
  after = after_opening bytes are psi slack ts opened cs

  keeps : Keeps (open_of bytes psi slack ts).run.plan psi slack run
  keeps = Works.kept bytes are psi slack ts opened cs

  by_run : (FailedIn log → ⊥) → Goal (open_of bytes psi slack ts).run.plan
  by_run nf w S C times c r =
      subst (λ (z : ℕ). ((call_of run c).reply ≡ r) ↔ Answered (known_by (open_of bytes psi slack ts).run.plan psi.0 z S C) c r) keeps.same_slack
      (subst (λ (z : Clock). ((call_of run c).reply ≡ r) ↔ Answered (known_by (open_of bytes psi slack ts).run.plan z.0 run.slack S C) c r) keeps.same_psi
      (subst (λ (z : Plan). ((call_of run c).reply ≡ r) ↔ Answered (known_by z run.psi.0 run.slack S C) c r) keeps.same_plan
      (answers run log is S C available nf after facts c r)))
    where
      facts : Facts run log is S C available run.plan run.psi.0 run.slack
      facts =
          subst (λ (z : Plan). Facts run log is S C available z run.psi.0 run.slack) (sym keeps.same_plan)
          (subst (λ (z : Clock). Facts run log is S C available (open_of bytes psi slack ts).run.plan z.0 run.slack) (sym keeps.same_psi)
          (subst (λ (z : ℕ). Facts run log is S C available (open_of bytes psi slack ts).run.plan psi.0 z) (sym keeps.same_slack)
          (record {
            claim = Works.of_the_log bytes are psi slack ts opened cs is w S C times;
            lawful = Works.lawful bytes are psi slack ts opened cs;
            automaton = Works.automaton bytes are psi slack ts opened cs;
            word = w;
            place = Works.place bytes are psi slack ts opened cs nf is w;
            loads = Works.loading bytes are psi slack ts opened cs nf is w;
          })))

  -- after a failed loading every call is answered by the stop
  by_stop : StoppedIn log → (p : Plan) → Goal p
  by_stop q p w S C times c r = (there, back)
    where
      s : (u : Stop) × StoppedBy log u
      s = stopped_by_lem log q

      replied : (u : Stop) → StoppedBy log u → (call_of run c).reply ≡ Reply.Stopped u
      replied u b = ap (λ (a : Answer). a.reply) (stop_kept run u c ((in_limits_lem run).1 after.limits) ((after.halted u).1 b))

      there : (call_of run c).reply ≡ r → Answered (known_by p psi.0 slack S C) c r
      there e = subst (Answered (known_by p psi.0 slack S C) c) (sym (replied s.0 s.1) ∙ e) (Halts.kept s.1)

      back : Answered (known_by p psi.0 slack S C) c r → (call_of run c).reply ≡ r
      back h = let k = only_kept (known_by p psi.0 slack S C) q c r h in replied k.0 k.1 ∙ sym k.2

  by_log : Goal (judge_of bytes).plan
  by_log = ⊎_elim (λ n. subst Goal (plan_kept bytes psi slack ts opened).keeps.same_plan (by_run n)) (λ q. ⊎_elim (λ s. stops Stop.Beyond s) (λ s. stops Stop.Full s) q) (failed_by log)
    where
      stops : (s : Stop) → StoppedBy log s → Goal (judge_of bytes).plan
      stops s q = by_stop (stopped_in log s q) (judge_of bytes).plan

pub answers_by_log : StatementAnswersByLog
answers_by_log bytes are psi slack ts opened cs is = by_log bytes are psi slack ts opened cs is
