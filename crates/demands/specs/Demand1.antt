-- Demand 1, and what "Strength of the contracts" asks besides, as statements.
use Rattle.std.specs.Prelude.{◌≡◌, true, List, [], ◌∷◌, ℕ, Some}
use Rattle.time.specs.declared.Clock.{Clock}
use Rattle.run.specs.declared.Run.{Run}
use Rattle.run_checks.specs.declared.Stop.{Stop}
use Rattle.run.specs.declared.Call.{Call}
use Rattle.run.specs.declared.Reply.{Reply}
use Rattle.run_checks.specs.declared.Refusal.{Refusal}
use Rattle.run.specs.declared.Unopened.{Unopened}
use Rattle.run.specs.declared.Opening.{Opening}
use Rattle.run.specs.Limits.{run_in_limits}
use Rattle.run.specs.Calls.{call_of, answer, refuse}
use Rattle.run.specs.Opening.{open_of, zero_run}
use Rattle.demands_log.specs.Log.{Log, said}
use Rattle.demands_log.specs.Drive.{drive}

-- "A refused call hands back the run exactly as it came in."
abbrev pub StatementRefusedUnchanged : Type 0
StatementRefusedUnchanged = (run : Run) (c : Call) (f : Refusal) → (call_of run c).reply ≡ Reply.Refused f → (call_of run c).run ≡ run

-- "A call to a stopped run does too, and answers the stop."
abbrev pub StatementStopKept : Type 0
StatementStopKept =
    (run : Run) (s : Stop) (c : Call) → run_in_limits run ≡ true → run.halt ≡ Some s → call_of run c ≡ answer (Reply.Stopped s) run

-- every stop is kept: the run that an answered stop hands back is stopped by it
abbrev pub StatementStopsStay : Type 0
StatementStopsStay = (run : Run) (s : Stop) (c : Call) → (call_of run c).reply ≡ Reply.Stopped s → (call_of run c).run.halt ≡ Some s

-- calls that are all answered r
abbrev pub answered : Reply → List Call → Log → Log
answered r [] log = log
answered r (c ∷ cs) log = answered r cs (said c r ∷ log)

-- after an answered stop every call is answered by it, and the run stays: of any run, a made-up one too, and any calls
abbrev pub StatementStopRepeated : Type 0
StatementStopRepeated =
    (run : Run) (s : Stop) (c : Call) → (call_of run c).reply ≡ Reply.Stopped s → (log : Log) (cs : List Call)
    → drive log (call_of run c).run cs ≡ record { log = answered (Reply.Stopped s) cs log; run = (call_of run c).run }

-- "A refused opening hands back a run of zeros, which gets 50."
abbrev pub StatementRefusedOpening : Type 0
StatementRefusedOpening =
    (bytes : List ℕ) (psi : Clock) (slack : ℕ) (ts : List ℕ) (u : Unopened) → (open_of bytes psi slack ts).opening ≡ Opening.Refused u → (open_of bytes psi slack ts).run ≡ zero_run

abbrev pub StatementZerosGet50 : Type 0
StatementZerosGet50 = (c : Call) → call_of zero_run c ≡ refuse zero_run Refusal.OutOfLimits

-- after a refused opening every call of the list gets 50, and the run stays the run of zeros: nothing is started
abbrev pub StatementRefusedList : Type 0
StatementRefusedList =
    (bytes : List ℕ) (psi : Clock) (slack : ℕ) (ts : List ℕ) (u : Unopened) → (open_of bytes psi slack ts).opening ≡ Opening.Refused u → (cs : List Call)
    → drive [] (open_of bytes psi slack ts).run cs ≡ record { log = answered (Reply.Refused Refusal.OutOfLimits) cs []; run = zero_run }
