-- "50 a run in which a stored count, number or time lies outside this paper's or its plan's limits": a run in limits.
use Rattle.std.specs.Prelude.{◌≡◌, true, ◌↔◌, ℕ, ◌≤◌, ◌<◌, Option, Some, None}
use Rattle.time.specs.Time.{horizon}
use Rattle.plan.specs.Plan.{size_of}
use Rattle.plan.specs.Limits.{InLimits}
use Rattle.plan.specs.declared.Plan.{Plan}
use Rattle.times.specs.Engine.{last_position}
use Rattle.run_path.specs.Pathed.{ProgressIn}
use Rattle.run_window.specs.Places.{Holds}
use Rattle.run_window.specs.declared.Entry.{Entry}
use Rattle.run.specs.declared.Run.{Run}
use Rattle.run_checks.specs.declared.Stop.{Stop}
use Rattle.run.specs.declared.Call.{Call}
use Rattle.run.specs.Limits.{run_in_limits}
use Rattle.run.specs.Calls.{call_of}

-- an entry of the window: a node of the plan, at a position up to 1,000,000,000, with times up to 10^15
pub record EntryInLimits (p : Plan) (e : Entry) : Type 0 where
  pub position : e.position ≤ last_position
  pub activity : e.activity < p.activities
  pub node : e.node < size_of p e.activity
  pub start : e.start.0 ≤ horizon
  pub end : e.end.0 ≤ horizon

-- the node that a stop names, by position and number; its activity is not stored, and "a node count" is "1 to 64"
abbrev pub StopInLimits : Stop → Type 0
StopInLimits (Stop.Late p n) = (p ≤ last_position) × (n < 64)
StopInLimits (Stop.Overdue p n) = (p ≤ last_position) × (n < 64)
StopInLimits Stop.Full = Unit {0}
StopInLimits Stop.Beyond = Unit {0}

abbrev pub HaltInLimits : Option Stop → Type 0
HaltInLimits None = Unit {0}
HaltInLimits (Some s) = StopInLimits s

-- all that a run stores, but for the last reading, which is any number
pub record RunInLimits (run : Run) : Type 0 where
  -- "The plan file": each count, number and duration of it, line by line in plan/Limits
  pub plan : InLimits run.plan
  -- not "Ψ .. above 10^15" (31)
  pub psi : run.psi.0 ≤ horizon
  -- "a slack of 1 to 1,000,000"
  pub slack : (1 ≤ run.slack) × (run.slack ≤ 1_000_000)
  -- where the behaviour stands, line by line in timing/Limits: each availability and each event's last completion up to
  -- 10^15; at most 8 pending instances of an event, each with its position, node, completion and reported outcome; the next
  -- position, at most one past 1,000,000,000 (its loading is then 44); and the state
  pub progress : ProgressIn run.plan run.progress
  -- each place of the window that holds a node
  pub window : (i : ℕ) (e : Entry) → Holds run.window i e → EntryInLimits run.plan e
  pub halt : HaltInLimits run.halt

abbrev pub StatementInLimits : Type 0
StatementInLimits = (run : Run) → (run_in_limits run ≡ true) ↔ RunInLimits run

-- a run in limits stays in limits, a made-up one too
abbrev pub StatementLimitsKept : Type 0
StatementLimitsKept = (run : Run) (c : Call) → RunInLimits run → RunInLimits (call_of run c).run
