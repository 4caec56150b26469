-- Demand 3: one claim over every accepted opening and every list of calls after it.
use Rattle.std.specs.Prelude.{◌≡◌, List, [], ℕ, get_or}
use Rattle.time.specs.declared.Clock.{Clock}
use Rattle.plan.specs.declared.Plan.{Plan}
use Rattle.times_combined.specs.Combined.{Ident}
use Rattle.times_combined.specs.Times.{Timing}
use Rattle.run.specs.declared.Call.{Call}
use Rattle.run.specs.declared.Opening.{Opening}
use Rattle.run.specs.Opening.{open_of}
use Rattle.judge.specs.Judge.{judge_of}
use Rattle.demands_log.specs.Drive.{Driven, drive}
use Rattle.demands_log.specs.Kept.{Keeps}
use Rattle.demands_theory.specs.TheWord.{whole_of, TheWord}
pub use Rattle.demands_theory.specs.Demand.{Demand3}
use Rattle.demands.specs.Accepted.{Bytes}

-- the list's log and its last run
abbrev pub driven_by : List ℕ → Clock → ℕ → List ℕ → List Call → Driven
driven_by bytes psi slack ts cs = drive [] (open_of bytes psi slack ts).run cs

-- After an accepted opening of a plan and any list of calls
pub record Demand3Of (p : Plan) (psi : Clock) (slack : ℕ) (ts : List ℕ) (d : Driven) : Type 0 where
  -- "the run keeps it"
  pub keeps : Keeps p psi slack d.run
  -- there is a word of the log, and only one
  pub word : (is : List ℕ) × TheWord p d.log is
  pub one : (is us : List ℕ) → TheWord p d.log is → TheWord p d.log us → is ≡ us
  -- it has specified times, under the opening's availabilities
  pub times : (is : List ℕ) → TheWord p d.log is → (S : Ident → ℕ) × (C : Ident → ℕ) × Timing (whole_of p is) (λ r. get_or ts r 0) S C
  -- and of them the claim holds
  pub claim : (is : List ℕ) → TheWord p d.log is → (S C : Ident → ℕ) → Timing (whole_of p is) (λ r. get_or ts r 0) S C → Demand3 p psi.0 slack (λ r. get_or ts r 0) is S C d

-- for every opening that is accepted, with the plan that its bytes hold, and every list of calls
abbrev pub StatementDemand3 : Type 0
StatementDemand3 =
    (bytes : List ℕ) → Bytes bytes → (psi : Clock) (slack : ℕ) (ts : List ℕ) → (open_of bytes psi slack ts).opening ≡ Opening.Opened → (cs : List Call)
    → Demand3Of (judge_of bytes).plan psi slack ts (driven_by bytes psi slack ts cs)
