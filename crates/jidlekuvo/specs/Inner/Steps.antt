-- The answer to a call and all of the run but its plan after it, before they are stored.
use Rattle.std.specs.Prelude.{List, map, ℕ, ◌<◌, get_or, set, Option, Result, Some, None}
use Rattle.plan.specs.Plan.{past_node}
use Rattle.times.specs.declared.Progress.{Progress}
use Rattle.run_window.specs.declared.Found.{Found}
use Rattle.run_window.specs.declared.Entry.{Entry}
use Rattle.run_checks.specs.declared.Objection.{Objection}
use Rattle.run_checks.specs.declared.Stop.{Stop}
use Rattle.run_checks.specs.declared.Moment.{Moment}
use Rattle.run.specs.declared.Reply.{Reply}
use Rattle.run.specs.declared.Answer.{Answer}
use Rattle.run.specs.declared.Call.{Call}
use Rattle.run.specs.declared.Effect.{Effect}
use Rattle.run.specs.Inner.Effects.{found_by, place_of, rests_as}
use Rattle.run.specs.Calls.{ask_of, completion_of, outcome_of}
use Rattle.held.specs.declared.Held.{Held}
use Rattle.held.specs.declared.HeldEntry.{HeldEntry}
use Rattle.held.specs.declared.HeldPlan.{HeldPlan}
use Rattle.held.specs.declared.HeldRest.{HeldRest}
use Rattle.held.specs.Held.{entry_of, progress_of, plan_of, run_of, rest_of}
use Rattle.held.specs.Inner.Rest.{rest_with, rest_by}
use Rattle.held_checks.specs.Inner.Limits.{nodes_good}
use Rattle.held_checks.specs.Inner.Checks.{moment_at, effect_read}
use Rattle.jidlekuvo.specs.declared.Stepped.{Stepped}
use Rattle.jidlekuvo.specs.Replies.{told_of}
use Rattle.jidlekuvo.specs.Host.{clock, rest_after}

abbrev pub stepped_to : Held → Answer → Stepped
stepped_to h a = record { rest = rest_after h a; reply = told_of a.reply }

-- of a call that changes the run
abbrev pub stepped_of : Answer → Stepped
stepped_of a = record { rest = rest_of a.run; reply = told_of a.reply }

-- the same by the parts of the run after it; its reading is the last one
abbrev pub stepped_by : Moment → List Entry → Progress → Option Stop → Reply → Stepped
stepped_by m window progress halt told = record { rest = rest_by m.psi m.slack m.t window progress halt; reply = told_of told }

-- with the window as it is written
abbrev pub stepped_with : Moment → List HeldEntry → Progress → Option Stop → Reply → Stepped
stepped_with m window progress halt told = record { rest = rest_with m.psi m.slack m.t window progress halt; reply = told_of told }

-- ---- what a call does

-- from what the checks say; 50 where a node of the plan lies outside the limits
abbrev pub effect_in : HeldPlan → Call → Result (Option Found) Objection → Effect
effect_in plan c check =
    effect_read c check (nodes_good (plan_of plan)) (get_or (plan_of plan).nodes (place_of (found_by check)) past_node).kind plan.outcomes

-- ---- carried out on the numbers

-- an effect that is no outcome that loads, and the state and place of which are the run's
abbrev pub Carries : HeldRest → Effect → Type 0
Carries rest (Effect.Stays told) = Unit {0}
Carries rest (Effect.Stops s) = Unit {0}
Carries rest Effect.Rests = rest.progress.state < 64
Carries rest (Effect.Stores i e told) = i < 512
Carries rest (Effect.Learns i x e o) = ⊥

-- an entry is stored at its place
abbrev pub window_by : List Entry → Effect → List Entry
window_by w (Effect.Stays told) = w
window_by w (Effect.Stops s) = w
window_by w Effect.Rests = w
window_by w (Effect.Stores i e told) = set w i e
window_by w (Effect.Learns i x e o) = w

abbrev pub carried_by : ℕ → HeldRest → Call → Effect → Stepped
carried_by finals rest c (Effect.Stays told) = record { rest = rest; reply = told_of told }
carried_by finals rest c (Effect.Stops s) =
    stepped_by (moment_at rest c) (map entry_of rest.window) (progress_of rest.progress) (Some s) (Reply.Stopped s)
carried_by finals rest c Effect.Rests =
    stepped_by (moment_at rest c) (map entry_of rest.window) (progress_of rest.progress) None (rests_as finals rest.progress.state (map entry_of rest.window))
carried_by finals rest c (Effect.Stores i e told) =
    stepped_by (moment_at rest c) (set (map entry_of rest.window) i e) (progress_of rest.progress) None told
carried_by finals rest c (Effect.Learns i x e o) = record { rest = rest; reply = told_of Reply.Taken }

-- a call that is no outcome
abbrev pub Plain : Call → Type 0
Plain (Call.Ask t) = Unit {0}
Plain (Call.Completion t p n) = Unit {0}
Plain (Call.Outcome t p n o) = ⊥

-- ---- each call

abbrev pub ask_step : Held → ℕ → Stepped
ask_step h t = stepped_to h (ask_of (run_of h) (clock t))

abbrev pub completion_step : Held → ℕ → ℕ → ℕ → Stepped
completion_step h t position node = stepped_to h (completion_of (run_of h) (clock t) position node)

abbrev pub outcome_step : Held → ℕ → ℕ → ℕ → ℕ → Stepped
outcome_step h t position node o = stepped_to h (outcome_of (run_of h) (clock t) position node o)
