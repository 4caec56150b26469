-- `met`: the reply to a call comes in its condition, by cases of the checks in their order.
use Rattle.std.specs.Prelude.{◌≡◌, refl, true, ℕ, ◌<◌, ltb, Option, Some, None}
use Rattle.std.proofs.Common.{sym, ◌∙◌, ap, true≢false, arith}
use borrow.Author.Tests.{ltb-true, ltb-false, eqb-true, eqb-false}
use Rattle.basis.proofs.Laws.Tells.{told_false}
use Rattle.basis.proofs.Laws.Bools.{and_left, and_right, by_test}
use Rattle.time.specs.declared.Clock.{Clock}
use Rattle.plan.specs.Plan.{is_final, outcomes_of}
use Rattle.plan.specs.declared.Kind.{Kind}
use Rattle.run_window.specs.declared.Entry.{Entry}
use Rattle.run_window.specs.declared.Phase.{Phase}
use Rattle.run_window.specs.Window.{is_held, is_started, is_overdue, is_late, is_due, is_node, starts_before, by_start, ends_before, is_empty}
use Rattle.run_window.proofs.Laws.Tests.{started_true}
use Rattle.run_window.proofs.Laws.Order.{starts_order, report_order, ends_order}
use Rattle.run_window.proofs.Laws.Places.{empty_none, none_empty}
use Rattle.run_checks.specs.Order.{timely_by}
use Rattle.run.specs.declared.Run.{Run}
use Rattle.run.specs.declared.Call.{Call}
use Rattle.run.specs.declared.Reply.{Reply}
use Rattle.run.specs.declared.Answer.{Answer}
use Rattle.run_checks.specs.declared.Refusal.{Refusal}
use Rattle.run_loading.specs.declared.Failure.{Failure}
use Rattle.run.specs.Limits.{run_in_limits}
use Rattle.demands_log.proofs.Laws.ByCases.{by_halt}
use Rattle.demands.proofs.Laws.InLimitsIff.{tells_run, in_limits_lem}
use Rattle.run.specs.Calls.{refuse, reading_of, is_done, asked, kind_of, completed_by, completed, after_loading, is_marker, learns_by, learns, timely, called, ask_of, completion_of, outcome_of, call_of}
use Rattle.demands.specs.Conditions.{entry_at, OverdueAt, LateAt, DueAt, NodeAt, Going, Rises, NotOverdue, Timely, Reports, Decides, loading_after, Ended, Refuses, Halts, Asks, Takes, Condition}
use Rattle.demands.proofs.Laws.FirstPlaces.{by_place, overdue_places, late_places, due_places, node_places}
use Rattle.demands_run.proofs.Laws.Ways.{held_loaded}

-- the reply of the answer comes in its condition
pub record MetBy (run : Run) (c : Call) (a : Answer) : Type 0 where
  pub condition : Condition run c a.reply

refused : (run : Run) (c : Call) (f : Refusal) → Refuses run c f → MetBy run c (refuse run f)
refused run c f h = record { condition = h }

-- ---- the order of checks

module _ (run : Run) (c : Call) (go : Answer) (next : Timely run (reading_of c) → MetBy run c go) where
  met_timely : Going run → MetBy run c (timely run (reading_of c) go)
  unfolding timely_by
  met_timely g =
      by_test (MetBy run c) (ltb (reading_of c).0 run.last.0) _ _ (λ l. refused run c Refusal.ReadingBelow (Refuses.number51 g (ltb-true _ _ l)))
      (λ l. let r : Rises run (reading_of c) = record { going = g; rises = ltb-false _ _ l } in
      by_place run (is_overdue run.psi (reading_of c)) (OverdueAt run (reading_of c)) (overdue_places run (reading_of c)) ends_before ends_order (MetBy run c) _ _
      (λ i f. record { condition = Halts.number42 i r f })
      (λ n. let h : NotOverdue run (reading_of c) = record { rises = r; none = n } in
      by_place run (is_late run.psi run.slack (reading_of c)) (LateAt run (reading_of c)) (late_places run (reading_of c)) (starts_before run.plan.nodes) (starts_order run.plan.nodes) (MetBy run c) _ _
      (λ i f. record { condition = Halts.number41 i h f })
      (λ m. next (record { not_overdue = h; none = m }))))

  met_called : MetBy run c (called run (reading_of c) go)
  met_called =
      by_test (MetBy run c) (run_in_limits run) _ _
      (λ l. by_halt (MetBy run c) run.halt _ _ (λ s h. record { condition = Halts.kept ((in_limits_lem run).0 l) h }) (λ h. met_timely (record { limits = (in_limits_lem run).0 l; going = h })))
      (λ l. refused run c Refusal.OutOfLimits (Refuses.number50 (told_false (tells_run run) l)))

-- ---- ask

unheld_free : (s : Phase) → (is_held s ≡ true → ⊥) → s ≡ Phase.Free
unheld_free Phase.Free n = refl
unheld_free Phase.Loaded n = absurd (n refl)
unheld_free Phase.Started n = absurd (n refl)

pub done_ended : (run : Run) → is_done run ≡ true → Ended run
done_ended run d = record {
  final = and_left (is_final run.plan.automaton run.progress.state) _ d;
  empty = λ i. unheld_free (entry_at run i).phase (λ h. empty_none run.window e i (entry_at run i) (record { entry = refl; held = h }));
}
  where
    e : is_empty run.window ≡ true
    e = and_right (is_final run.plan.automaton run.progress.state) _ d

pub ended_done : (run : Run) → Ended run → is_done run ≡ true
ended_done run h = rw h.final (none_empty run.window (λ i e k. true≢false (sym k.held ∙ (ap (λ (x : Entry). is_held x.phase) (sym k.entry) ∙ ap is_held (h.empty i)))))

met_asked : (run : Run) (t : Clock) → Timely run t → MetBy run (Call.Ask t) (asked run t)
unfolding asked
met_asked run t h =
    by_place run (is_due run.psi t) (DueAt run t) (due_places run t) (starts_before run.plan.nodes) (starts_order run.plan.nodes) (MetBy run (Call.Ask t)) _ _
    (λ i f. record { condition = Asks.starts i h f })
    (λ n. record {
      condition = by_test (Condition run (Call.Ask t)) (is_done run) Reply.Done Reply.Wait
          (λ d. Asks.done h (done_ended run d))
          (λ d. Asks.waits h n (λ e. true≢false (sym (ended_done run e) ∙ d)));
    })

-- ---- reports

-- an event that has an outcome and not one has several
pub several_if : (o k : ℕ) → o < k → (k ≡ 1 → ⊥) → 1 < k
several_if o k l n = omega (arith, n)

module _ (run : Run) (t : Clock) (p n : ℕ) (h : Timely run t) where
  met_completed : MetBy run (Call.Completion t p n) (completed run t p n)
  unfolding completed
  met_completed =
      by_place run (is_node p n) (NodeAt run p n) (node_places run p n) by_start report_order (MetBy run c) _ _
      (λ i f. by_test (MetBy run c) (is_started (entry_at run i).phase) _ _
      (λ s. by_kind i (record { timely = h; named = f; started = started_true _ s }) (kind_of run (entry_at run i)) refl)
      (λ s. refused run c Refusal.NotStarted (Refuses.number53 i h f (held_loaded _ f.has.held s))))
      (λ m. refused run c Refusal.NoSuchNode (Refuses.number52 h tt m))
    where
      c : Call
      c = Call.Completion t p n

      by_kind : (i : ℕ) → Reports run c i → (k : Kind) → kind_of run (entry_at run i) ≡ k → MetBy run c (completed_by run t i k)
      by_kind i r (Kind.Action a x) e = record { condition = Takes.completion i r (rw e tt) }
      by_kind i r (Kind.Claim x) e = refused run c Refusal.OtherKind (Refuses.number54 i r (λ q. rw e at q))
      by_kind i r (Kind.Release x) e = refused run c Refusal.OtherKind (Refuses.number54 i r (λ q. rw e at q))
      by_kind i r (Kind.Event x) e = refused run c Refusal.OtherKind (Refuses.number54 i r (λ q. rw e at q))

  module _ (o : ℕ) where
    met_loaded : (i e : ℕ) → Decides run t p n o i e → (f : Option Failure) → loading_after run t o i e ≡ f → (next : Run) → MetBy run (Call.Outcome t p n o) (after_loading f next)
    met_loaded i e l None q next = record { condition = Takes.outcome i e l q }
    met_loaded i e l (Some Failure.Full) q next = record { condition = Halts.number43 i e l q }
    met_loaded i e l (Some Failure.Beyond) q next = record { condition = Halts.number44 i e l q }

    met_learns : MetBy run (Call.Outcome t p n o) (learns run t p n o)
    unfolding learns
    met_learns =
        by_place run (is_node p n) (NodeAt run p n) (node_places run p n) by_start report_order (MetBy run c) _ _
        (λ i f. by_test (MetBy run c) (is_started (entry_at run i).phase) _ _
        (λ s. by_kind i (record { timely = h; named = f; started = started_true _ s }) (kind_of run (entry_at run i)) refl)
        (λ s. refused run c Refusal.NotStarted (Refuses.number53 i h f (held_loaded _ f.has.held s))))
        (λ m. refused run c Refusal.NoSuchNode (Refuses.number52 h tt m))
      where
        c : Call
        c = Call.Outcome t p n o

        by_kind : (i : ℕ) → Reports run c i → (k : Kind) → kind_of run (entry_at run i) ≡ k → MetBy run c (learns_by run t i (entry_at run i) o k)
        by_kind i r (Kind.Action a x) e = refused run c Refusal.OtherKind (Refuses.number54 i r (λ q. rw e at q))
        by_kind i r (Kind.Claim x) e = refused run c Refusal.OtherKind (Refuses.number54 i r (λ q. rw e at q))
        by_kind i r (Kind.Release x) e = refused run c Refusal.OtherKind (Refuses.number54 i r (λ q. rw e at q))
        by_kind i r (Kind.Event x) e =
            by_test (MetBy run c) (ltb o (outcomes_of run.plan x)) _ _
            (λ l. by_test (MetBy run c) (is_marker run.plan x) _ _
            (λ m. record { condition = Takes.marker i x (record { reports = r; event = e; has = ltb-true _ _ l }) (eqb-true _ _ m) })
            (λ m. met_loaded i x (record { learns = record { reports = r; event = e; has = ltb-true _ _ l }; several = several_if o (outcomes_of run.plan x) (ltb-true _ _ l) (eqb-false _ _ m) }) (loading_after run t o i x) refl _))
            (λ l. refused run c Refusal.OutcomeLacking (Refuses.number55 i x r e (ltb-false _ _ l)))

pub met : (run : Run) (c : Call) → MetBy run c (call_of run c)
unfolding call_of ask_of completion_of outcome_of
met run (Call.Ask t) = met_called run (Call.Ask t) _ (met_asked run t)
met run (Call.Completion t p n) = met_called run (Call.Completion t p n) _ (met_completed run t p n)
met run (Call.Outcome t p n o) = met_called run (Call.Outcome t p n o) _ (λ h. met_learns run t p n h o)
