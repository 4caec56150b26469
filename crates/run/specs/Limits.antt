-- "50 a run in which a stored count, number or time lies outside this paper's or its plan's limits": what a run in limits is.
use Rattle.std.specs.Prelude.{Bool, ◌&&◌, leb}
use Rattle.time.specs.Time.{horizon}
use Rattle.plan_limits.specs.Limits.{in_limits}
use Rattle.run_limits.specs.Progress.{progress_in_limits}
use Rattle.run_limits.specs.Window.{window_in_limits}
pub use Rattle.run_checks.specs.Limits.{stop_in_limits, halt_in_limits, slack_in_limits}
use Rattle.run.specs.declared.Run.{Run}

-- the plan, Ψ, the slack, where the behaviour stands, the window and the stop; not the last reading, which is any number
unfoldable pub run_in_limits : Run → Bool
run_in_limits run =
    in_limits run.plan
    && (leb run.psi.0 horizon
    && (slack_in_limits run.slack
    && (progress_in_limits run.plan run.progress
    && (window_in_limits run.plan.activities run.plan.sizes run.window && halt_in_limits run.halt))))
