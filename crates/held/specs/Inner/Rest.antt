-- All of a run but its plan, by its parts.
use Rattle.std.specs.Prelude.{List, map, ℕ, Option}
use Rattle.time.specs.declared.Clock.{Clock}
use Rattle.times.specs.declared.Progress.{Progress}
use Rattle.run_window.specs.declared.Entry.{Entry}
use Rattle.run_checks.specs.declared.Stop.{Stop}
use Rattle.held.specs.declared.HeldEntry.{HeldEntry}
use Rattle.held.specs.declared.HeldRest.{HeldRest}
use Rattle.held.specs.Held.{held_entry, held_progress, held_halt}

-- with the window as it is written
abbrev pub rest_with : Clock → ℕ → Clock → List HeldEntry → Progress → Option Stop → HeldRest
rest_with psi slack last window progress halt =
    record { psi = psi; slack = slack; last = last; window = window; progress = held_progress progress; halt = held_halt halt }

abbrev pub rest_by : Clock → ℕ → Clock → List Entry → Progress → Option Stop → HeldRest
rest_by psi slack last window progress halt = rest_with psi slack last (map held_entry window) progress halt
