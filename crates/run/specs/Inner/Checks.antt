-- What the checks at a call say.
use Rattle.std.specs.Prelude.{Bool, ◌&&◌, Option, Result, Ok, Err}
use Rattle.time.specs.declared.Clock.{Clock}
use Rattle.run_limits.specs.Progress.{progress_in_limits}
use Rattle.run_limits.specs.Window.{window_in_limits}
use Rattle.run_window.specs.declared.Found.{Found}
use Rattle.run_window.specs.declared.Sought.{Sought}
use Rattle.run_window.specs.Inner.Search.{first_of}
use Rattle.run_checks.specs.declared.Objection.{Objection}
use Rattle.run_checks.specs.Order.{called_by}
use Rattle.run.specs.declared.Run.{Run}
use Rattle.run.specs.Limits.{halt_in_limits, run_in_limits}
use Rattle.run.specs.Calls.{moment_of}

-- where the behaviour stands, the window and the stop
unfoldable pub stored_in_limits : Run → Bool
stored_in_limits run =
    progress_in_limits run.plan run.progress
    && (window_in_limits run.plan.activities run.plan.sizes run.window && halt_in_limits run.halt)

-- what the checks say, and the first of what the call looks for
unfoldable pub check_of : Run → Clock → Sought → Result (Option Found) Objection
check_of run t sought =
    called_by (run_in_limits run) run.halt (moment_of run t) run.plan.nodes run.window Err (Ok (first_of run.plan.nodes sought run.window))
