-- `gives`: where the condition of a reply holds, a call gets that reply, which follows from the definition of the call.
use Rattle.std.specs.Prelude.{◌≡◌, refl, Bool, true, false, cond, ℕ, ◌≤◌, ◌<◌, set, Option, Some, None}
use Rattle.std.proofs.Common.{sym, ◌∙◌, ap, true≢false, arith}
use borrow.Author.Tests.{lt-ltb, le-ltb, eq-eqb, ne_eqb}
use Rattle.basis.proofs.Laws.Tells.{is_false}
use Rattle.time.specs.declared.Clock.{Clock}
use Rattle.plan.specs.Plan.{outcomes_of}
use Rattle.plan.specs.declared.Kind.{Kind}
use Rattle.run_window.specs.declared.Entry.{Entry}
use Rattle.run_window.specs.declared.Phase.{Phase}
use Rattle.run_window.specs.Window.{started_of, is_free, is_overdue, is_late, is_due, is_node, starts_before, by_start, ends_before}
use Rattle.run_window.proofs.Laws.Order.{starts_order, report_order, ends_order}
use Rattle.run_checks.specs.Order.{timely_by}
use Rattle.run.specs.declared.Run.{Run}
use Rattle.run_checks.specs.declared.Stop.{Stop}
use Rattle.run.specs.declared.Call.{Call}
use Rattle.run.specs.declared.Reply.{Reply}
use Rattle.run.specs.declared.Answer.{Answer}
use Rattle.run_checks.specs.declared.Refusal.{Refusal}
use Rattle.run_loading.specs.declared.Failure.{Failure}
use Rattle.run_outcomes.specs.Told.{told_of}
use Rattle.run.specs.Calls.{answer, refuse, heard, stops, reading_of, is_done, asked, kind_of, reported, completed_by, completed, cleared, after_loading, learnt, hears, learns_by, learns, timely, called, ask_of, completion_of, outcome_of, call_of}
use Rattle.run.specs.Inner.Calls.{reply_after}
use Rattle.demands.specs.Conditions.{entry_at, OverdueAt, LateAt, DueAt, NodeAt, NamedAt, IsReport, RightKind, IsAction, IsEvent, Nowhere, FirstOf, Going, Rises, NotOverdue, Timely, Reports, Learns, Decides, loading_after, Ended, Refuses, Halts, Asks, Takes, Condition}
use Rattle.demands.specs.InLimits.{RunInLimits}
use Rattle.demands.proofs.Laws.InLimitsIff.{tells_run, in_limits_lem}
use Rattle.demands.proofs.Laws.FirstPlaces.{first_place, none_place, overdue_places, late_places, due_places, node_places}
use Rattle.demands.proofs.Laws.ConditionsMet.{done_ended, ended_done}

abbrev reply_of : Answer → Reply
reply_of a = a.reply

-- ---- the order of checks

-- what a call does once the checks up to 41 are passed
abbrev pub passed : Run → Call → Answer
passed run (Call.Ask t) = asked run t
passed run (Call.Completion t p n) = completed run t p n
passed run (Call.Outcome t p n o) = learns run t p n o

call_order : (run : Run) (c : Call) → call_of run c ≡ called run (reading_of c) (passed run c)
unfolding call_of ask_of completion_of outcome_of
call_order run (Call.Ask t) = refl
call_order run (Call.Completion t p n) = refl
call_order run (Call.Outcome t p n o) = refl

module _ (run : Run) (t : Clock) (go : Answer) where
  called_out : (RunInLimits run → ⊥) → called run t go ≡ refuse run Refusal.OutOfLimits
  called_out n = let l = is_false (tells_run run) n in rw l

  called_kept : (s : Stop) → RunInLimits run → run.halt ≡ Some s → called run t go ≡ answer (Reply.Stopped s) run
  called_kept s r h = let l = (in_limits_lem run).1 r in rw (l, h)

  called_going : Going run → called run t go ≡ timely run t go
  called_going g = let l = (in_limits_lem run).1 g.limits in rw (l, g.going)

  timely_below : t.0 < run.last.0 → timely run t go ≡ refuse run Refusal.ReadingBelow
  unfolding timely_by
  timely_below l = rw (lt-ltb t.0 run.last.0 l)

  timely_overdue : (i : ℕ) → Rises run t → FirstOf run (OverdueAt run t) ends_before i → timely run t go ≡ stops run t (Stop.Overdue (entry_at run i).position (entry_at run i).node)
  unfolding timely_by
  timely_overdue i r f = rw (le-ltb t.0 run.last.0 r.rises, first_place run (is_overdue run.psi t) (OverdueAt run t) (overdue_places run t) ends_before ends_order i f)

  timely_late : (i : ℕ) → NotOverdue run t → FirstOf run (LateAt run t) (starts_before run.plan.nodes) i → timely run t go ≡ stops run t (Stop.Late (entry_at run i).position (entry_at run i).node)
  unfolding timely_by
  timely_late i h f =
      rw (
        le-ltb t.0 run.last.0 h.rises.rises,
        none_place run (is_overdue run.psi t) (OverdueAt run t) (overdue_places run t) ends_before ends_order h.none,
        first_place run (is_late run.psi run.slack t) (LateAt run t) (late_places run t) (starts_before run.plan.nodes) (starts_order run.plan.nodes) i f,
      )

  timely_goes : Timely run t → timely run t go ≡ go
  unfolding timely_by
  timely_goes h =
      rw (
        le-ltb t.0 run.last.0 h.not_overdue.rises.rises,
        none_place run (is_overdue run.psi t) (OverdueAt run t) (overdue_places run t) ends_before ends_order h.not_overdue.none,
        none_place run (is_late run.psi run.slack t) (LateAt run t) (late_places run t) (starts_before run.plan.nodes) (starts_order run.plan.nodes) h.none,
      )

-- ---- the whole answer: of 42 and 41, and of a timely call

module _ (run : Run) (c : Call) where
  going_call : Going run → call_of run c ≡ timely run (reading_of c) (passed run c)
  going_call g = call_order run c ∙ called_going run (reading_of c) (passed run c) g

  pub overdue_call : (i : ℕ) → Rises run (reading_of c) → FirstOf run (OverdueAt run (reading_of c)) ends_before i
      → call_of run c ≡ stops run (reading_of c) (Stop.Overdue (entry_at run i).position (entry_at run i).node)
  overdue_call i r f = going_call r.going ∙ timely_overdue run (reading_of c) (passed run c) i r f

  pub late_call : (i : ℕ) → NotOverdue run (reading_of c) → FirstOf run (LateAt run (reading_of c)) (starts_before run.plan.nodes) i
      → call_of run c ≡ stops run (reading_of c) (Stop.Late (entry_at run i).position (entry_at run i).node)
  late_call i h f = going_call h.rises.going ∙ timely_late run (reading_of c) (passed run c) i h f

  pub timely_call : Timely run (reading_of c) → call_of run c ≡ passed run c
  timely_call h = going_call h.not_overdue.rises.going ∙ timely_goes run (reading_of c) (passed run c) h

-- the reply of a timely call
at_call : (run : Run) (c : Call) (r : Reply) → Timely run (reading_of c) → (passed run c).reply ≡ r → (call_of run c).reply ≡ r
at_call run c r h q = ap reply_of (timely_call run c h) ∙ q

-- ---- ask

module _ (run : Run) (t : Clock) where
  pub asked_starts : (i : ℕ) → FirstOf run (DueAt run t) (starts_before run.plan.nodes) i
      → asked run t ≡ answer (Reply.Start (entry_at run i).position (entry_at run i).activity (entry_at run i).node) (heard run t None run.progress (set run.window i (started_of (entry_at run i))))
  unfolding asked
  asked_starts i f = rw (first_place run (is_due run.psi t) (DueAt run t) (due_places run t) (starts_before run.plan.nodes) (starts_order run.plan.nodes) i f)

  pub asked_nothing : Nowhere (DueAt run t) → asked run t ≡ answer (cond (is_done run) Reply.Done Reply.Wait) (heard run t None run.progress run.window)
  unfolding asked
  asked_nothing n = rw (none_place run (is_due run.psi t) (DueAt run t) (due_places run t) (starts_before run.plan.nodes) (starts_order run.plan.nodes) n)

  pub none_due : Ended run → Nowhere (DueAt run t)
  none_due e i h = true≢false (ap is_free (sym (e.empty i) ∙ h.unstarted))

  asked_done : Ended run → (asked run t).reply ≡ Reply.Done
  asked_done e = ap reply_of (asked_nothing (none_due e)) ∙ rw (ended_done run e)

  asked_waits : Nowhere (DueAt run t) → (Ended run → ⊥) → (asked run t).reply ≡ Reply.Wait
  asked_waits n e = ap reply_of (asked_nothing n) ∙ go (is_done run) refl
    where
      go : (b : Bool) → is_done run ≡ b → cond b Reply.Done Reply.Wait ≡ Reply.Wait
      go true q = absurd (e (done_ended run q))
      go false q = refl

-- ---- reports

module _ (run : Run) (p n : ℕ) (f : ℕ → Entry → Answer) where
  reported_none : Nowhere (NodeAt run p n) → reported run p n f ≡ refuse run Refusal.NoSuchNode
  reported_none h = rw (none_place run (is_node p n) (NodeAt run p n) (node_places run p n) by_start report_order h)

  reported_loaded : (i : ℕ) → FirstOf run (NodeAt run p n) by_start i → (entry_at run i).phase ≡ Phase.Loaded → reported run p n f ≡ refuse run Refusal.NotStarted
  reported_loaded i h s = rw (first_place run (is_node p n) (NodeAt run p n) (node_places run p n) by_start report_order i h, s)

  reported_started : (i : ℕ) → FirstOf run (NodeAt run p n) by_start i → (entry_at run i).phase ≡ Phase.Started → reported run p n f ≡ f i (entry_at run i)
  reported_started i h s = rw (first_place run (is_node p n) (NodeAt run p n) (node_places run p n) by_start report_order i h, s)

not_node : (run : Run) (c : Call) → IsReport c → Nowhere (NamedAt run c) → passed run c ≡ refuse run Refusal.NoSuchNode
unfolding completed learns
not_node run (Call.Ask t) r h = absurd r
not_node run (Call.Completion t p n) r h = reported_none run p n _ h
not_node run (Call.Outcome t p n o) r h = reported_none run p n _ h

not_started : (run : Run) (c : Call) (i : ℕ) → FirstOf run (NamedAt run c) by_start i → (entry_at run i).phase ≡ Phase.Loaded → passed run c ≡ refuse run Refusal.NotStarted
unfolding completed learns
not_started run (Call.Ask t) i h s = absurd h.has
not_started run (Call.Completion t p n) i h s = reported_loaded run p n _ i h s
not_started run (Call.Outcome t p n o) i h s = reported_loaded run p n _ i h s

-- what a report of a started node comes to
abbrev pub accepted : Run → Call → ℕ → Answer
accepted run (Call.Ask t) i = asked run t
accepted run (Call.Completion t p n) i = completed_by run t i (kind_of run (entry_at run i))
accepted run (Call.Outcome t p n o) i = learns_by run t i (entry_at run i) o (kind_of run (entry_at run i))

started_node : (run : Run) (c : Call) (i : ℕ) → Reports run c i → passed run c ≡ accepted run c i
unfolding completed learns
started_node run (Call.Ask t) i r = refl
started_node run (Call.Completion t p n) i r = reported_started run p n _ i r.named r.started
started_node run (Call.Outcome t p n o) i r = reported_started run p n _ i r.named r.started

pub report_call : (run : Run) (c : Call) (i : ℕ) → Reports run c i → call_of run c ≡ accepted run c i
report_call run c i h = timely_call run c h.timely ∙ started_node run c i h

-- the reply of a timely report of a started node
at_report : (run : Run) (c : Call) (i : ℕ) (r : Reply) → Reports run c i → (accepted run c i).reply ≡ r → (call_of run c).reply ≡ r
at_report run c i r h q = ap reply_of (report_call run c i h) ∙ q

pub completed_action : (run : Run) (t : Clock) (i : ℕ) (k : Kind) → IsAction k → completed_by run t i k ≡ answer Reply.Taken (cleared run t i run.progress)
completed_action run t i (Kind.Action a x) h = refl
completed_action run t i (Kind.Claim r) h = absurd h
completed_action run t i (Kind.Release r) h = absurd h
completed_action run t i (Kind.Event e) h = absurd h

completed_other : (run : Run) (t : Clock) (i : ℕ) (k : Kind) → (IsAction k → ⊥) → completed_by run t i k ≡ refuse run Refusal.OtherKind
completed_other run t i (Kind.Action a x) h = absurd (h tt)
completed_other run t i (Kind.Claim r) h = refl
completed_other run t i (Kind.Release r) h = refl
completed_other run t i (Kind.Event e) h = refl

learns_other : (run : Run) (t : Clock) (i : ℕ) (x : Entry) (o : ℕ) (k : Kind) → (IsEvent k → ⊥) → learns_by run t i x o k ≡ refuse run Refusal.OtherKind
learns_other run t i x o (Kind.Action a y) h = refl
learns_other run t i x o (Kind.Claim r) h = refl
learns_other run t i x o (Kind.Release r) h = refl
learns_other run t i x o (Kind.Event e) h = absurd (h tt)

other_kind : (run : Run) (c : Call) (i : ℕ) → Reports run c i → (RightKind c (kind_of run (entry_at run i)) → ⊥) → (accepted run c i).reply ≡ Reply.Refused Refusal.OtherKind
other_kind run (Call.Ask t) i r h = absurd r.named.has
other_kind run (Call.Completion t p n) i r h = ap reply_of (completed_other run t i (kind_of run (entry_at run i)) h)
other_kind run (Call.Outcome t p n o) i r h = ap reply_of (learns_other run t i (entry_at run i) o (kind_of run (entry_at run i)) h)

lacking : (run : Run) (t : Clock) (o i e : ℕ) → kind_of run (entry_at run i) ≡ Kind.Event e → outcomes_of run.plan e ≤ o
    → (learns_by run t i (entry_at run i) o (kind_of run (entry_at run i))).reply ≡ Reply.Refused Refusal.OutcomeLacking
lacking run t o i e k l = rw (k, le-ltb o (outcomes_of run.plan e) l)

-- ---- the reply of an accepted outcome, by how loading after it ends

after_loading_lem : (f : Option Failure) (run : Run) → (after_loading f run).reply ≡ reply_after f
after_loading_lem None run = refl
after_loading_lem (Some Failure.Full) run = refl
after_loading_lem (Some Failure.Beyond) run = refl

-- an outcome that the event has
learns_event : (run : Run) (t : Clock) (p n o i e : ℕ) → Learns run t p n o i e → call_of run (Call.Outcome t p n o) ≡ hears run t i (entry_at run i) e o
learns_event run t p n o i e l = report_call run (Call.Outcome t p n o) i l.reports ∙ rw (l.event, lt-ltb o (outcomes_of run.plan e) l.has)

pub outcome_call : (run : Run) (t : Clock) (p n o i e : ℕ) → Decides run t p n o i e → call_of run (Call.Outcome t p n o) ≡ learnt (cleared run t i (told_of run.progress e (entry_at run i) o))
outcome_call run t p n o i e d = learns_event run t p n o i e d.learns ∙ rw (ne_eqb (outcomes_of run.plan e) 1 (λ q. let s = d.several in omega arith))

pub marker_call : (run : Run) (t : Clock) (p n o i e : ℕ) → Learns run t p n o i e → outcomes_of run.plan e ≡ 1 → call_of run (Call.Outcome t p n o) ≡ answer Reply.Taken (cleared run t i run.progress)
marker_call run t p n o i e l one = learns_event run t p n o i e l ∙ rw (eq-eqb (outcomes_of run.plan e) 1 one)

at_loading : (run : Run) (t : Clock) (p n o i e : ℕ) (f : Option Failure) → Decides run t p n o i e → loading_after run t o i e ≡ f → (call_of run (Call.Outcome t p n o)).reply ≡ reply_after f
at_loading run t p n o i e f l q =
    ap reply_of (outcome_call run t p n o i e l) ∙ (after_loading_lem (loading_after run t o i e) _ ∙ ap reply_after q)

-- ---- every reply

gives_refusal : (run : Run) (c : Call) (f : Refusal) → Refuses run c f → (call_of run c).reply ≡ Reply.Refused f
gives_refusal run c _ (Refuses.number50 l) = ap reply_of (call_order run c ∙ called_out run (reading_of c) (passed run c) l)
gives_refusal run c _ (Refuses.number51 g l) = ap reply_of (going_call run c g ∙ timely_below run (reading_of c) (passed run c) l)
gives_refusal run c _ (Refuses.number52 h r m) = at_call run c _ h (ap reply_of (not_node run c r m))
gives_refusal run c _ (Refuses.number53 i h f s) = at_call run c _ h (ap reply_of (not_started run c i f s))
gives_refusal run c _ (Refuses.number54 i r k) = at_report run c i _ r (other_kind run c i r k)
gives_refusal run _ _ (Refuses.number55 {t} {p} {n} {o} i e r k l) = at_report run (Call.Outcome t p n o) i _ r (lacking run t o i e k l)

gives_stop : (run : Run) (c : Call) (s : Stop) → Halts run c s → (call_of run c).reply ≡ Reply.Stopped s
gives_stop run c s (Halts.kept l h) = ap reply_of (call_order run c ∙ called_kept run (reading_of c) (passed run c) s l h)
gives_stop run c _ (Halts.number42 i r f) = ap reply_of (overdue_call run c i r f)
gives_stop run c _ (Halts.number41 i h f) = ap reply_of (late_call run c i h f)
gives_stop run _ _ (Halts.number43 {t} {p} {n} {o} i e l q) = at_loading run t p n o i e (Some Failure.Full) l q
gives_stop run _ _ (Halts.number44 {t} {p} {n} {o} i e l q) = at_loading run t p n o i e (Some Failure.Beyond) l q

gives_asked : (run : Run) (c : Call) (r : Reply) → Asks run c r → (call_of run c).reply ≡ r
gives_asked run _ _ (Asks.starts {t} i h f) = at_call run (Call.Ask t) _ h (ap reply_of (asked_starts run t i f))
gives_asked run _ _ (Asks.done {t} h e) = at_call run (Call.Ask t) _ h (asked_done run t e)
gives_asked run _ _ (Asks.waits {t} h n e) = at_call run (Call.Ask t) _ h (asked_waits run t n e)

gives_taken : (run : Run) (c : Call) → Takes run c → (call_of run c).reply ≡ Reply.Taken
gives_taken run _ (Takes.completion {t} {p} {n} i r k) = at_report run (Call.Completion t p n) i _ r (ap reply_of (completed_action run t i (kind_of run (entry_at run i)) k))
gives_taken run _ (Takes.outcome {t} {p} {n} {o} i e l q) = at_loading run t p n o i e None l q
gives_taken run _ (Takes.marker {t} {p} {n} {o} i e l q) = ap reply_of (marker_call run t p n o i e l q)

pub gives : (run : Run) (c : Call) (r : Reply) → Condition run c r → (call_of run c).reply ≡ r
gives run c (Reply.Start p a n) h = gives_asked run c (Reply.Start p a n) h
gives run c Reply.Wait h = gives_asked run c Reply.Wait h
gives run c Reply.Done h = gives_asked run c Reply.Done h
gives run c Reply.Taken h = gives_taken run c h
gives run c (Reply.Refused f) h = gives_refusal run c f h
gives run c (Reply.Stopped s) h = gives_stop run c s h
