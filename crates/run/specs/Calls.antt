-- "Calls carry a clock reading: ask, completion of an action, outcome of an event (which completes it)."
use Rattle.std.specs.Prelude.{Bool, cond, ◌&&◌, List, ℕ, ltb, eqb, set, Option, Some, None}
use Rattle.time.specs.declared.Clock.{Clock}
use Rattle.plan.specs.Plan.{is_final, outcomes_of}
use Rattle.plan.specs.Limits.{node_at}
use Rattle.plan.specs.declared.Kind.{Kind}
use Rattle.plan.specs.declared.Plan.{Plan}
use Rattle.times.specs.declared.Progress.{Progress}
use Rattle.run_window.specs.declared.Entry.{Entry}
use Rattle.run_checks.specs.declared.Stop.{Stop}
use Rattle.run.specs.declared.Run.{Run}
use Rattle.run_checks.specs.declared.Refusal.{Refusal}
use Rattle.run.specs.declared.Reply.{Reply}
use Rattle.run.specs.declared.Answer.{Answer}
use Rattle.run.specs.declared.Call.{Call}
use Rattle.run_loading.specs.declared.Failure.{Failure}
use Rattle.run_window.specs.Window.{vacant, started_of, is_due, is_node, starts_before, by_start, on_found, first, is_empty}
use Rattle.run_checks.specs.declared.Objection.{Objection}
use Rattle.run_checks.specs.declared.Moment.{Moment}
use Rattle.run_checks.specs.Order.{timely_by, called_by, reported_by}
pub use Rattle.run_checks.specs.Order.{on_halt}
use Rattle.run_outcomes.specs.Told.{told_of}
use Rattle.run.specs.Loading.{further, most_pending}
use Rattle.run.specs.Limits.{run_in_limits}

abbrev pub answer : Reply → Run → Answer
answer r run = record { reply = r; run = run }

-- "A refused call hands back the run exactly as it came in."
abbrev pub refuse : Run → Refusal → Answer
refuse run f = answer (Reply.Refused f) run

-- "Any other answer makes its reading the last one"
abbrev pub heard : Run → Clock → Option Stop → Progress → List Entry → Run
heard run t h g w =
    record { plan = run.plan; psi = run.psi; slack = run.slack; progress = g; window = w; last = t; halt = h }

abbrev pub stops : Run → Clock → Stop → Answer
stops run t s = answer (Reply.Stopped s) (heard run t (Some s) run.progress run.window)

-- ---- ask

-- "It says done if the path ended in a final state and the window is empty, otherwise wait when nothing is due."
abbrev pub is_done : Run → Bool
is_done run = is_final run.plan.automaton run.progress.state && is_empty run.window

-- "Ask starts the due, unstarted node with the earliest specified start"
unfoldable pub asked : Run → Clock → Answer
asked run t =
    on_found (first (is_due run.psi t) (starts_before run.plan.nodes) 0 run.window)
    (λ i e. answer (Reply.Start e.position e.activity e.node) (heard run t None run.progress (set run.window i (started_of e))))
    (answer (cond (is_done run) Reply.Done Reply.Wait) (heard run t None run.progress run.window))

-- ---- reports

-- the kind of an entry's node
abbrev pub kind_of : Run → Entry → Kind
kind_of run e = (node_at run.plan e.activity e.node).kind

-- 52 no such node in the window; 53 node not started
abbrev pub reported : Run → ℕ → ℕ → (ℕ → Entry → Answer) → Answer
reported run position node f =
    reported_by (first (is_node position node) by_start 0 run.window) f (refuse run)

-- the reported node leaves the window
abbrev pub cleared : Run → Clock → ℕ → Progress → Run
cleared run t i g = heard run t None g (set run.window i vacant)

-- 54 completion of an event
abbrev pub completed_by : Run → Clock → ℕ → Kind → Answer
completed_by run t i (Kind.Action a x) = answer Reply.Taken (cleared run t i run.progress)
completed_by run t i (Kind.Claim r) = refuse run Refusal.OtherKind
completed_by run t i (Kind.Release r) = refuse run Refusal.OtherKind
completed_by run t i (Kind.Event e) = refuse run Refusal.OtherKind

unfoldable pub completed : Run → Clock → ℕ → ℕ → Answer
completed run t position node = reported run position node (λ i e. completed_by run t i (kind_of run e))

-- ---- outcomes

abbrev pub halted_by : Run → Stop → Run
halted_by run s =
    record { plan = run.plan; psi = run.psi; slack = run.slack; progress = run.progress; window = run.window; last = run.last; halt = Some s }

-- "An accepted report is taken; if loading after it fails the answer is stopped, the report and any path loaded before
-- still count"
abbrev pub after_loading : Option Failure → Run → Answer
after_loading None run = answer Reply.Taken run
after_loading (Some Failure.Full) run = answer (Reply.Stopped Stop.Full) (halted_by run Stop.Full)
after_loading (Some Failure.Beyond) run = answer (Reply.Stopped Stop.Beyond) (halted_by run Stop.Beyond)

abbrev pub learnt : Run → Answer
learnt run = after_loading (further most_pending run).failure (further most_pending run).run

-- "Customers use one-outcome events as markers"
abbrev pub is_marker : Plan → ℕ → Bool
is_marker p e = eqb (outcomes_of p e) 1

-- outcome o, which event e has; of a marker, "Its report closes the node and is not queued."
abbrev pub hears : Run → Clock → ℕ → Entry → ℕ → ℕ → Answer
hears run t i x e o =
    cond (is_marker run.plan e) (answer Reply.Taken (cleared run t i run.progress))
    (learnt (cleared run t i (told_of run.progress e x o)))

-- 54 outcome of an action; 55 outcome the event lacks
abbrev pub learns_by : Run → Clock → ℕ → Entry → ℕ → Kind → Answer
learns_by run t i x o (Kind.Action a y) = refuse run Refusal.OtherKind
learns_by run t i x o (Kind.Claim r) = refuse run Refusal.OtherKind
learns_by run t i x o (Kind.Release r) = refuse run Refusal.OtherKind
learns_by run t i x o (Kind.Event e) = cond (ltb o (outcomes_of run.plan e)) (hears run t i x e o) (refuse run Refusal.OutcomeLacking)

unfoldable pub learns : Run → Clock → ℕ → ℕ → ℕ → Answer
learns run t position node o = reported run position node (λ i e. learns_by run t i e o (kind_of run e))

-- ---- the order of checks at a call

-- what is answered where the checks object: "A refused call hands back the run exactly as it came in. A call to a stopped
-- run does too, and answers the stop. Any other answer makes its reading the last one"
abbrev pub objected : Run → Clock → Objection → Answer
objected run t (Objection.Refuses f) = refuse run f
objected run t (Objection.Keeps s) = answer (Reply.Stopped s) run
objected run t (Objection.Stops s) = stops run t s

abbrev pub moment_of : Run → Clock → Moment
moment_of run t = record { psi = run.psi; slack = run.slack; last = run.last; t = t }

-- 51 reading below the last one, 42 overdue, 41 late
abbrev pub timely : Run → Clock → Answer → Answer
timely run t go = timely_by (moment_of run t) run.plan.nodes run.window (objected run t) go

-- "Order at a call: 50, kept stop, 51, 42, 41, 52 to 55."
abbrev pub called : Run → Clock → Answer → Answer
called run t go = called_by (run_in_limits run) run.halt (moment_of run t) run.plan.nodes run.window (objected run t) go

unfoldable pub ask_of : Run → Clock → Answer
ask_of run t = called run t (asked run t)

unfoldable pub completion_of : Run → Clock → ℕ → ℕ → Answer
completion_of run t position node = called run t (completed run t position node)

unfoldable pub outcome_of : Run → Clock → ℕ → ℕ → ℕ → Answer
outcome_of run t position node o = called run t (learns run t position node o)

unfoldable pub call_of : Run → Call → Answer
call_of run (Call.Ask t) = ask_of run t
call_of run (Call.Completion t p n) = completion_of run t p n
call_of run (Call.Outcome t p n o) = outcome_of run t p n o

abbrev pub reading_of : Call → Clock
reading_of (Call.Ask t) = t
reading_of (Call.Completion t p n) = t
reading_of (Call.Outcome t p n o) = t
