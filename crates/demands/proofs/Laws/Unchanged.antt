-- `refused_unchanged`, `stop_kept`, `stops_stay`, `refused_opening`, `zeros_get_50`: demand 1 of a run, from the order of
-- checks at a call. Every answer is right: a refused one has the run that came in, a stopped one a run that has this stop.
use Rattle.std.specs.Prelude.{◌≡◌, refl, Bool, true, false, cond, ◌||◌, List, ℕ, ltb, eqb, length, Option, Some, None, Ok, Err}
use Rattle.std.proofs.Common.{subst}
use Rattle.basis.proofs.Laws.Bools.{by_cond}
use Rattle.basis.specs.Tests.{every}
use Rattle.time.specs.Time.{horizon}
use Rattle.time.specs.declared.Clock.{Clock}
use Rattle.plan.specs.Plan.{outcomes_of}
use Rattle.plan.specs.declared.Kind.{Kind}
use Rattle.plan.specs.declared.Plan.{Plan}
use Rattle.plan.specs.Verdict.{Verdict}
use Rattle.run_window.specs.declared.Entry.{Entry}
use Rattle.run_window.specs.Window.{first, is_started, starts_before, by_start, is_due, is_node}
use Rattle.run_checks.proofs.Laws.Checks.{by_timely}
use Rattle.run.specs.declared.Run.{Run}
use Rattle.run_checks.specs.declared.Stop.{Stop}
use Rattle.run.specs.declared.Call.{Call}
use Rattle.run.specs.declared.Reply.{Reply}
use Rattle.run.specs.declared.Answer.{Answer}
use Rattle.run_checks.specs.declared.Refusal.{Refusal}
use Rattle.run_loading.specs.declared.Failure.{Failure}
use Rattle.run.specs.Loading.{Loading}
use Rattle.run.specs.declared.Opening.{Opening}
use Rattle.run.specs.declared.Opened.{Opened}
use Rattle.judge.specs.Judge.{judge_of}
use Rattle.run.specs.Limits.{run_in_limits, slack_in_limits}
use Rattle.automaton.specs.Next.{next_of}
use Rattle.plan_limits.specs.Limits.{in_limits, parts_in_limits, within, nodes_in_limits, automaton_in_limits}
use Rattle.run.specs.Loading.{load, further, most_pending}
use Rattle.run_outcomes.specs.Told.{told_of}
use Rattle.run.specs.Calls.{answer, refuse, asked, reported, completed_by, completed, after_loading, learnt, cleared, is_marker, hears, learns_by, learns, timely, called, ask_of, completion_of, outcome_of, call_of, is_done, kind_of}
use Rattle.run_opening.specs.Short.{on_short, short_from}
use Rattle.run_opening.specs.Given.{any_above, at_first, availabilities}
use Rattle.run.specs.Opening.{open_of, open_judged, open_plan, after_first, zero_run, fresh}
use Rattle.demands_log.proofs.Laws.ByCases.{by_found, by_halt}
use Rattle.demands.specs.Demand1.{StatementRefusedUnchanged, StatementStopKept, StatementStopsStay, StatementRefusedOpening, StatementZerosGet50}

-- ---- by cases

-- ---- what is right of an answer

-- a reply to a call of `run`, and the run after it
abbrev Right : Run → Reply → Run → Type 0
Right run (Reply.Start p a n) next = Unit {0}
Right run Reply.Wait next = Unit {0}
Right run Reply.Done next = Unit {0}
Right run Reply.Taken next = Unit {0}
Right run (Reply.Refused f) next = next ≡ run
Right run (Reply.Stopped s) next = next.halt ≡ Some s

record RightOf (run : Run) (a : Answer) : Type 0 where
  right : Right run a.reply a.run

right_done : (run next : Run) (b : Bool) → Right run (cond b Reply.Done Reply.Wait) next
right_done run next true = tt
right_done run next false = tt

right_asked : (run : Run) (t : Clock) → RightOf run (asked run t)
unfolding asked
right_asked run t =
    by_found (RightOf run) (first (is_due run.psi t) (starts_before run.plan.nodes) 0 run.window) _ _ (λ i e. record { right = tt }) (record { right = right_done run _ (is_done run) })

right_reported : (run : Run) (p n : ℕ) (f : ℕ → Entry → Answer) → ((i : ℕ) (e : Entry) → RightOf run (f i e)) → RightOf run (reported run p n f)
right_reported run p n f h =
    by_found (RightOf run) (first (is_node p n) by_start 0 run.window) _ _
    (λ i e. by_cond (RightOf run) (is_started e.phase) (f i e) (refuse run Refusal.NotStarted) (h i e) (record { right = refl })) (record { right = refl })

right_completed_by : (run : Run) (t : Clock) (i : ℕ) (k : Kind) → RightOf run (completed_by run t i k)
right_completed_by run t i (Kind.Action a x) = record { right = tt }
right_completed_by run t i (Kind.Claim r) = record { right = refl }
right_completed_by run t i (Kind.Release r) = record { right = refl }
right_completed_by run t i (Kind.Event e) = record { right = refl }

right_completed : (run : Run) (t : Clock) (p n : ℕ) → RightOf run (completed run t p n)
unfolding completed
right_completed run t p n = right_reported run p n _ (λ i e. right_completed_by run t i (kind_of run e))

right_loaded : (run next : Run) (f : Option Failure) → RightOf run (after_loading f next)
right_loaded run next None = record { right = tt }
right_loaded run next (Some Failure.Full) = record { right = refl }
right_loaded run next (Some Failure.Beyond) = record { right = refl }

right_learns_by : (run : Run) (t : Clock) (i : ℕ) (x : Entry) (o : ℕ) (k : Kind) → RightOf run (learns_by run t i x o k)
right_learns_by run t i x o (Kind.Action a y) = record { right = refl }
right_learns_by run t i x o (Kind.Claim r) = record { right = refl }
right_learns_by run t i x o (Kind.Release r) = record { right = refl }
right_learns_by run t i x o (Kind.Event e) =
    by_cond (RightOf run) (ltb o (outcomes_of run.plan e)) (hears run t i x e o) (refuse run Refusal.OutcomeLacking)
    (by_cond (RightOf run) (is_marker run.plan e) (answer Reply.Taken (cleared run t i run.progress)) (learnt next) (record { right = tt })
    (right_loaded run (further most_pending next).run (further most_pending next).failure))
    (record { right = refl })
  where
    next : Run
    next = cleared run t i (told_of run.progress e x o)

right_learns : (run : Run) (t : Clock) (p n o : ℕ) → RightOf run (learns run t p n o)
unfolding learns
right_learns run t p n o = right_reported run p n _ (λ i e. right_learns_by run t i e o (kind_of run e))

right_timely : (run : Run) (t : Clock) (go : Answer) → RightOf run go → RightOf run (timely run t go)
right_timely run t go h = by_timely (RightOf run) _ _ _ _ _ (record { right = refl }) (λ i e q. record { right = refl }) (λ i e q. record { right = refl }) h

right_called : (run : Run) (t : Clock) (go : Answer) → RightOf run go → RightOf run (called run t go)
right_called run t go h =
    by_cond (RightOf run) (run_in_limits run) _ _
    (by_halt (RightOf run) run.halt _ _ (λ s e. record { right = e }) (λ g. right_timely run t go h)) (record { right = refl })

right : (run : Run) (c : Call) → RightOf run (call_of run c)
unfolding call_of ask_of completion_of outcome_of
right run (Call.Ask t) = right_called run t _ (right_asked run t)
right run (Call.Completion t p n) = right_called run t _ (right_completed run t p n)
right run (Call.Outcome t p n o) = right_called run t _ (right_learns run t p n o)

-- ---- the theorems

pub refused_unchanged : StatementRefusedUnchanged
refused_unchanged run c f e = subst (λ (r : Reply). Right run r (call_of run c).run) e (right run c).right

pub stops_stay : StatementStopsStay
stops_stay run s c e = subst (λ (r : Reply). Right run r (call_of run c).run) e (right run c).right

kept : (run : Run) (t : Clock) (s : Stop) (go : Answer) → run_in_limits run ≡ true → run.halt ≡ Some s → called run t go ≡ answer (Reply.Stopped s) run
kept run t s go l h = rw (l, h)

pub stop_kept : StatementStopKept
unfolding call_of ask_of completion_of outcome_of
stop_kept run s (Call.Ask t) l h = kept run t s _ l h
stop_kept run s (Call.Completion t p n) l h = kept run t s _ l h
stop_kept run s (Call.Outcome t p n o) l h = kept run t s _ l h

-- ---- openings

abbrev Zeros : Opening → Run → Type 0
Zeros Opening.Opened run = Unit {0}
Zeros (Opening.Refused u) run = run ≡ zero_run

record ZerosOf (o : Opened) : Type 0 where
  zeros : Zeros o.opening o.run

zeros_first : (f : Option Failure) (run : Run) → ZerosOf (after_first f run)
zeros_first None run = record { zeros = tt }
zeros_first (Some Failure.Full) run = record { zeros = refl }
zeros_first (Some Failure.Beyond) run = record { zeros = refl }

zeros_short : (r : Option ℕ) (f : ℕ → Opened) (z : Opened) → ((a : ℕ) → ZerosOf (f a)) → ZerosOf z → ZerosOf (on_short r f z)
zeros_short None f z p q = q
zeros_short (Some a) f z p q = p a

zeros_plan : (p : Plan) (psi : Clock) (slack : ℕ) (ts : List ℕ) → ZerosOf (open_plan p psi slack ts)
unfolding open_plan
zeros_plan p psi slack ts =
    by_cond ZerosOf (eqb (length ts) p.resources) _ _
    (by_cond ZerosOf (ltb horizon psi.0 || any_above ts) _ _ (record { zeros = refl })
    (by_cond ZerosOf (slack_in_limits slack) _ _
    (zeros_short (short_from p slack 0 p.activities) _ _ (λ a. record { zeros = refl }) (zeros_first first_path_lem.failure first_path_lem.run))
    (record { zeros = refl })))
    (record { zeros = refl })
  where
    opened : Run
    opened = fresh p psi slack (at_first (availabilities ts) p.automaton.initial)

    first_path_lem : Loading
    first_path_lem = load opened (next_of p.automaton p.automaton.initial)

zeros_judged : (v : Verdict) (p : Plan) (psi : Clock) (slack : ℕ) (ts : List ℕ) → ZerosOf (open_judged v p psi slack ts)
zeros_judged (Ok u) p psi slack ts = zeros_plan p psi slack ts
zeros_judged (Err e) p psi slack ts = record { zeros = refl }

zeros : (bytes : List ℕ) (psi : Clock) (slack : ℕ) (ts : List ℕ) → ZerosOf (open_of bytes psi slack ts)
unfolding open_of
zeros bytes psi slack ts = zeros_judged (judge_of bytes).verdict (judge_of bytes).plan psi slack ts

pub refused_opening : StatementRefusedOpening
refused_opening bytes psi slack ts u e = subst (λ (o : Opening). Zeros o (open_of bytes psi slack ts).run) e (zeros bytes psi slack ts).zeros

-- a run of zeros has no states, so it is not in limits
zeros_out : run_in_limits zero_run ≡ false
unfolding every run_in_limits in_limits parts_in_limits within nodes_in_limits automaton_in_limits
zeros_out = refl

zeros_called : (t : Clock) (go : Answer) → called zero_run t go ≡ refuse zero_run Refusal.OutOfLimits
zeros_called t go = rw zeros_out

pub zeros_get_50 : StatementZerosGet50
unfolding call_of ask_of completion_of outcome_of
zeros_get_50 (Call.Ask t) = zeros_called t _
zeros_get_50 (Call.Completion t p n) = zeros_called t _
zeros_get_50 (Call.Outcome t p n o) = zeros_called t _
