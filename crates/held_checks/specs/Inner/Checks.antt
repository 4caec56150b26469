-- The checks of a call where the nodes of the plan are looked at last: of them, one is needed in any case.
use Rattle.std.specs.Prelude.{◌≡◌, Bool, true, false, cond, ◌&&◌, List, ℕ, leb, Option, Some, None, Result, Ok, Err}
use Rattle.time.specs.Time.{horizon}
use Rattle.time.specs.declared.Clock.{Clock}
use Rattle.plan.specs.declared.Kind.{Kind}
use Rattle.run_window.specs.declared.Entry.{Entry}
use Rattle.run_window.specs.declared.Found.{Found}
use Rattle.run_window.specs.declared.Scan.{Scan}
use Rattle.run_window.specs.declared.Seen.{Seen}
use Rattle.run_window.specs.declared.Sought.{Sought}
use Rattle.run_window.specs.Inner.Search.{Scanned, first_of}
use Rattle.run_limits.specs.Progress.{progress_in_limits}
use Rattle.run_limits.specs.Window.{window_in_limits}
use Rattle.run_checks.specs.declared.Stop.{Stop}
use Rattle.run_checks.specs.declared.Refusal.{Refusal}
use Rattle.run_checks.specs.declared.Objection.{Objection}
use Rattle.run_checks.specs.declared.Moment.{Moment}
use Rattle.run_checks.specs.Limits.{halt_in_limits, slack_in_limits}
use Rattle.run_checks.specs.Order.{is_below, reading_then, on_halt, called_by}
use Rattle.run.specs.declared.Run.{Run}
use Rattle.run.specs.declared.Call.{Call}
use Rattle.run.specs.declared.Effect.{Effect}
use Rattle.run.specs.Calls.{moment_of, reading_of}
use Rattle.run.specs.Inner.Effects.{outcomes_for, refusing, effect_by}
use Rattle.held.specs.declared.HeldPlan.{HeldPlan}
use Rattle.held.specs.declared.HeldRest.{HeldRest}
use Rattle.held.specs.Held.{run_of}
use Rattle.held_checks.specs.Inner.Limits.{numbers_in_limits}

abbrev pub moment_at : HeldRest → Call → Moment
moment_at rest c = record { psi = rest.psi; slack = rest.slack; last = rest.last; t = reading_of c }

-- the run that the two parts of its numbers stand for
abbrev pub run_by : HeldPlan → HeldRest → Run
run_by plan rest = run_of (record { rest = rest; plan = plan })

-- where it is known of plan, progress and window whether they are within the limits
abbrev pub limits_by : Bool → Bool → Bool → Clock → ℕ → Option Stop → Bool
limits_by good stands holds psi slack halt = good && (stands && (holds && (leb psi.0 horizon && (slack_in_limits slack && halt_in_limits halt))))

-- a run is within the limits, but for the nodes of its plan
unfoldable pub all_but_nodes : Run → Bool
all_but_nodes run =
    limits_by (numbers_in_limits run.plan) (progress_in_limits run.plan run.progress) (window_in_limits run.plan.activities run.plan.sizes run.window)
    run.psi run.slack run.halt

abbrev pub nothing_seen : Seen
nothing_seen = record { overdue = None; late = None; sought = None }

-- what is found where no start ties; nothing is looked for outside the limits
abbrev pub ScannedIn : Bool → Moment → Sought → List Entry → Scan → Type 0
ScannedIn true m sought w r = Scanned m.psi m.slack m.t sought w r
ScannedIn false m sought w r = r ≡ Scan.Untied nothing_seen

-- what the checks say, from what was found: 50, kept stop, 51, 42, 41
abbrev pub check_seen : Bool → Option Stop → Moment → Seen → Result (Option Found) Objection
check_seen limits halt m seen =
    cond limits
    (on_halt halt (λ s. Err (Objection.Keeps s)) (reading_then (is_below m) seen.overdue seen.late Err (Ok seen.sought)))
    (Err (Objection.Refuses Refusal.OutOfLimits))

-- what the checks of a run say, with the nodes of its plan taken to be within the limits
abbrev pub check_nodes_last : Run → Clock → Sought → Result (Option Found) Objection
check_nodes_last run t sought =
    called_by (all_but_nodes run) run.halt (moment_of run t) run.plan.nodes run.window Err (Ok (first_of run.plan.nodes sought run.window))

-- what the call does, from what the checks say and the kind of the node that was found; without one a node lies outside the limits
abbrev pub effect_told : Call → Result (Option Found) Objection → Option Kind → List ℕ → Effect
effect_told c check (Some kind) outcomes = effect_by c check kind (outcomes_for outcomes kind)
effect_told c check None outcomes = refusing Refusal.OutOfLimits

-- the same, from whether the nodes are within the limits, and the kind of the one that was found
abbrev pub effect_read : Call → Result (Option Found) Objection → Bool → Kind → List ℕ → Effect
effect_read c check good kind outcomes = effect_told c check (cond good (Some kind) None) outcomes
