-- "Any other answer makes its reading the last one": every answer but a refusal and a kept stop; it goes on unless it
-- stops.
use Rattle.std.specs.Prelude.{◌≡◌, refl, Bool, true, false, cond, ℕ, zero, suc, ltb, length, Option, Some, None}
use Rattle.std.proofs.Common.{sym, subst}
use Rattle.basis.proofs.Laws.Bools.{by_cond}
use Rattle.time.specs.declared.Clock.{Clock}
use Rattle.plan.specs.Plan.{outcomes_of}
use Rattle.plan.specs.declared.Kind.{Kind}
use Rattle.automaton.specs.Next.{next_of}
use Rattle.automaton.specs.declared.Next.{Next}
use Rattle.run_window.specs.declared.Entry.{Entry}
use Rattle.run_window.specs.Window.{vacancies, first, is_started, starts_before, by_start, is_due, is_node}
use Rattle.run_path.specs.Path.{Path, path_from, longest_path}
use Rattle.run_outcomes.specs.Way.{way_on}
use Rattle.run_outcomes.specs.Told.{told_of}
use Rattle.run_checks.proofs.Laws.Checks.{by_timely}
use Rattle.run.specs.declared.Run.{Run}
use Rattle.run_checks.specs.declared.Stop.{Stop}
use Rattle.run.specs.declared.Call.{Call}
use Rattle.run.specs.declared.Reply.{Reply}
use Rattle.run.specs.declared.Answer.{Answer}
use Rattle.run_checks.specs.declared.Refusal.{Refusal}
use Rattle.run_loading.specs.declared.Failure.{Failure}
use Rattle.run.specs.Loading.{Loading}
use Rattle.run.specs.Limits.{run_in_limits}
use Rattle.run.specs.Loading.{load, load_path, on_loading, further, most_pending}
use Rattle.run.specs.Calls.{answer, refuse, asked, reported, completed_by, completed, after_loading, learnt, cleared, is_marker, hears, learns_by, learns, on_halt, timely, called, ask_of, completion_of, outcome_of, call_of, is_done, kind_of, reading_of}
use Rattle.demands_log.proofs.Laws.ByCases.{by_found, by_way}

-- ---- loading leaves the last reading, and stops nothing

-- its last reading, and its stop
abbrev On : Clock → Option Stop → Run → Type 0
On t h run = (run.last ≡ t) × (run.halt ≡ h)

record Lasts (t : Clock) (l : Loading) : Type 0 where
  lasts : On t None l.run

record LastsOn (t : Clock) (m : Run → Loading) (l : Loading) : Type 0 where
  lasts : Lasts t (on_loading l m)

lasts_path : (t : Clock) (m : Run → Loading) → ((r : Run) → On t None r → Lasts t (m r)) → (run : Run) (q : Path) → On t None run → LastsOn t m (load_path run q)
lasts_path t m h run q e =
    by_cond (LastsOn t m) q.beyond _ _ (record { lasts = record { lasts = e } })
    (by_cond (LastsOn t m) (ltb (vacancies run.window) (length q.entries)) _ _ (record { lasts = record { lasts = e } })
    (record { lasts = h _ e }))

lasts_further : (t : Clock) (k : ℕ) (run : Run) → On t None run → Lasts t (further k run)
unfolding further load
lasts_further t zero run e = record { lasts = e }
lasts_further t (suc k) run e =
    by_way (Lasts t) (way_on run.plan.automaton run.progress (next_of run.plan.automaton run.progress.state)) _ _
    (λ s w. (lasts_path t (further k) (lasts_further t k) run (path_from run.plan longest_path (Next.Goes s) run.progress) e).lasts) (λ n. record { lasts = e })

-- ---- an answer

abbrev pub Right : Clock → Reply → Run → Type 0
Right t (Reply.Start p a n) next = On t None next
Right t Reply.Wait next = On t None next
Right t Reply.Done next = On t None next
Right t Reply.Taken next = On t None next
Right t (Reply.Refused f) next = Unit {0}
Right t (Reply.Stopped s) next = On t (Some s) next

record RightOf (t : Clock) (a : Answer) : Type 0 where
  right : Right t a.reply a.run

right_done : (t : Clock) (next : Run) (b : Bool) → On t None next → Right t (cond b Reply.Done Reply.Wait) next
right_done t next true e = e
right_done t next false e = e

right_asked : (run : Run) (t : Clock) → RightOf t (asked run t)
unfolding asked
right_asked run t =
    by_found (RightOf t) (first (is_due run.psi t) (starts_before run.plan.nodes) 0 run.window) _ _ (λ i e. record { right = (refl, refl) }) (record { right = right_done t _ (is_done run) (refl, refl) })

right_reported : (run : Run) (t : Clock) (p n : ℕ) (f : ℕ → Entry → Answer) → ((i : ℕ) (e : Entry) → RightOf t (f i e)) → RightOf t (reported run p n f)
right_reported run t p n f h =
    by_found (RightOf t) (first (is_node p n) by_start 0 run.window) _ _
    (λ i e. by_cond (RightOf t) (is_started e.phase) (f i e) (refuse run Refusal.NotStarted) (h i e) (record { right = tt })) (record { right = tt })

right_completed_by : (run : Run) (t : Clock) (i : ℕ) (k : Kind) → RightOf t (completed_by run t i k)
right_completed_by run t i (Kind.Action a x) = record { right = (refl, refl) }
right_completed_by run t i (Kind.Claim r) = record { right = tt }
right_completed_by run t i (Kind.Release r) = record { right = tt }
right_completed_by run t i (Kind.Event e) = record { right = tt }

right_completed : (run : Run) (t : Clock) (p n : ℕ) → RightOf t (completed run t p n)
unfolding completed
right_completed run t p n = right_reported run t p n _ (λ i e. right_completed_by run t i (kind_of run e))

right_loaded : (t : Clock) (next : Run) (f : Option Failure) → On t None next → RightOf t (after_loading f next)
right_loaded t next None e = record { right = e }
right_loaded t next (Some Failure.Full) e = record { right = (e.0, refl) }
right_loaded t next (Some Failure.Beyond) e = record { right = (e.0, refl) }

right_learns_by : (run : Run) (t : Clock) (i : ℕ) (x : Entry) (o : ℕ) (k : Kind) → RightOf t (learns_by run t i x o k)
right_learns_by run t i x o (Kind.Action a y) = record { right = tt }
right_learns_by run t i x o (Kind.Claim r) = record { right = tt }
right_learns_by run t i x o (Kind.Release r) = record { right = tt }
right_learns_by run t i x o (Kind.Event e) =
    by_cond (RightOf t) (ltb o (outcomes_of run.plan e)) (hears run t i x e o) (refuse run Refusal.OutcomeLacking)
    (by_cond (RightOf t) (is_marker run.plan e) (answer Reply.Taken (cleared run t i run.progress)) (learnt next) (record { right = (refl, refl) })
    (right_loaded t (further most_pending next).run (further most_pending next).failure (lasts_further t most_pending next (refl, refl)).lasts)) (record { right = tt })
  where
    next : Run
    next = cleared run t i (told_of run.progress e x o)

right_learns : (run : Run) (t : Clock) (p n o : ℕ) → RightOf t (learns run t p n o)
unfolding learns
right_learns run t p n o = right_reported run t p n _ (λ i e. right_learns_by run t i e o (kind_of run e))

right_timely : (run : Run) (t : Clock) (go : Answer) → RightOf t go → RightOf t (timely run t go)
right_timely run t go h = by_timely (RightOf t) _ _ _ _ _ (record { right = tt }) (λ i e q. record { right = (refl, refl) }) (λ i e q. record { right = (refl, refl) }) h

right_called : (run : Run) (t : Clock) (go : Answer) → run.halt ≡ None → RightOf t go → RightOf t (called run t go)
right_called run t go g h =
    by_cond (RightOf t) (run_in_limits run) _ _
    (subst (λ (x : Option Stop). RightOf t (on_halt x (λ s. answer (Reply.Stopped s) run) (timely run t go))) (sym g) (right_timely run t go h)) (record { right = tt })

right : (run : Run) (c : Call) → run.halt ≡ None → RightOf (reading_of c) (call_of run c)
unfolding call_of ask_of completion_of outcome_of
right run (Call.Ask t) g = right_called run t _ g (right_asked run t)
right run (Call.Completion t p n) g = right_called run t _ g (right_completed run t p n)
right run (Call.Outcome t p n o) g = right_called run t _ g (right_learns run t p n o)

-- of a run that was going, every answer but a refusal makes its reading the last one, and stops it or lets it go on
pub reading_last : (run : Run) (c : Call) → run.halt ≡ None → Right (reading_of c) (call_of run c).reply (call_of run c).run
reading_last run c g = (right run c g).right
