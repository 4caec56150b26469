-- `refusal_numbers`, `stop_numbers`, `unopened_numbers`: each number of document 01 that a call or an opening can get, as a
-- number, in its condition and in no other.
use Rattle.std.specs.Prelude.{◌≡◌, ◌↔◌, List, ℕ}
use Rattle.time.specs.declared.Clock.{Clock}
use Rattle.plan.specs.Fault.{number_of}
use Rattle.plan.specs.declared.Fault.{Fault}
use Rattle.run.specs.declared.Run.{Run}
use Rattle.run.specs.declared.Call.{Call}
use Rattle.run_checks.specs.declared.Stop.{Stop}
use Rattle.run.specs.declared.Reply.{Reply}
use Rattle.run_checks.specs.declared.Refusal.{Refusal}
use Rattle.run.specs.Calls.{call_of}
use Rattle.run.specs.declared.Opening.{Opening}
use Rattle.run.specs.declared.Unopened.{Unopened}
use Rattle.run.specs.Numbers.{refusal_number, stop_number}
use Rattle.demands.specs.Accepted.{Bytes}
use Rattle.demands.specs.Conditions.{Refuses, Halts}
use Rattle.demands.specs.Openings as Openings
use Rattle.demands.specs.Openings.{OpensBy}

-- ---- calls

pub record RefusedWith (run : Run) (c : Call) (number : ℕ) : Type 0 where
  pub refusal : Refusal
  pub answered : (call_of run c).reply ≡ Reply.Refused refusal
  pub numbered : refusal_number refusal ≡ number

pub data RefusedFor (run : Run) (c : Call) : ℕ → Type 0 where
  number50 : Refuses run c Refusal.OutOfLimits → RefusedFor run c 50
  number51 : Refuses run c Refusal.ReadingBelow → RefusedFor run c 51
  number52 : Refuses run c Refusal.NoSuchNode → RefusedFor run c 52
  number53 : Refuses run c Refusal.NotStarted → RefusedFor run c 53
  number54 : Refuses run c Refusal.OtherKind → RefusedFor run c 54
  number55 : Refuses run c Refusal.OutcomeLacking → RefusedFor run c 55

pub record StoppedWith (run : Run) (c : Call) (number : ℕ) : Type 0 where
  pub stop : Stop
  pub answered : (call_of run c).reply ≡ Reply.Stopped stop
  pub numbered : stop_number stop ≡ number

pub data StoppedFor (run : Run) (c : Call) : ℕ → Type 0 where
  number41 : (p n : ℕ) → Halts run c (Stop.Late p n) → StoppedFor run c 41
  number42 : (p n : ℕ) → Halts run c (Stop.Overdue p n) → StoppedFor run c 42
  number43 : Halts run c Stop.Full → StoppedFor run c 43
  number44 : Halts run c Stop.Beyond → StoppedFor run c 44

abbrev pub StatementRefusalNumbers : Type 0
StatementRefusalNumbers = (run : Run) (c : Call) (n : ℕ) → RefusedWith run c n ↔ RefusedFor run c n

abbrev pub StatementStopNumbers : Type 0
StatementStopNumbers = (run : Run) (c : Call) (n : ℕ) → StoppedWith run c n ↔ StoppedFor run c n

-- ---- openings

-- "The plan's author" has the number of the fault; "place 0 unless said"
pub data UnopenedFor (bytes : List ℕ) (psi : Clock) (slack : ℕ) (ts : List ℕ) : ℕ → ℕ → Type 0 where
  author : (f : Fault) (place : ℕ) → OpensBy bytes psi slack ts (Opening.Refused (Unopened.Plan f place)) → UnopenedFor bytes psi slack ts (number_of f) place
  number30 : OpensBy bytes psi slack ts (Opening.Refused Unopened.Availabilities) → UnopenedFor bytes psi slack ts 30 0
  number31 : OpensBy bytes psi slack ts (Opening.Refused Unopened.Time) → UnopenedFor bytes psi slack ts 31 0
  number32 : OpensBy bytes psi slack ts (Opening.Refused Unopened.Slack) → UnopenedFor bytes psi slack ts 32 0
  number33 : (a : ℕ) → OpensBy bytes psi slack ts (Opening.Refused (Unopened.Short a)) → UnopenedFor bytes psi slack ts 33 a
  number44 : OpensBy bytes psi slack ts (Opening.Refused Unopened.Beyond) → UnopenedFor bytes psi slack ts 44 0
  number43 : OpensBy bytes psi slack ts (Opening.Refused Unopened.Full) → UnopenedFor bytes psi slack ts 43 0

abbrev pub StatementUnopenedNumbers : Type 0
StatementUnopenedNumbers =
    (bytes : List ℕ) → Bytes bytes → (psi : Clock) (slack : ℕ) (ts : List ℕ) (n place : ℕ) → Openings.RefusedWith bytes psi slack ts n place ↔ UnopenedFor bytes psi slack ts n place
