-- `drive_records`: the records of the exported drive are that of the opening and one for each part of the list. Those of the calls
-- are the log's answers, so that demand 3 and `answers_by_log` speak of what it writes; that of a question is a node's place in the
-- window of the run that the calls before it left.
use Rattle.std.specs.Prelude.{◌≡◌, true, List, [], ◌∷◌, ◌++◌, ℕ, ◌+◌, length, take, drop}
use Rattle.wire.specs.Number.{little}
use Rattle.time.specs.declared.Clock.{Clock}
use Rattle.run.specs.declared.Call.{Call}
use Rattle.run.specs.declared.Unopened.{Unopened}
use Rattle.run.specs.declared.Opening.{Opening}
use Rattle.run.specs.Opening.{open_of}
use Rattle.run_window.specs.Where.{place_of}
use Rattle.demands_log.specs.Log.{Log}
use Rattle.demands_log.specs.Drive.{Driven}
use Rattle.drive_input.specs.declared.Part.{Part}
use Rattle.drive_input.specs.Input.{plan_length, plan_of, clock_at, count_of, availabilities_from, is_whole}
use Rattle.drive_records.specs.declared.Record.{Record}
use Rattle.drive_records.specs.Records.{opening_record, reply_record, place_record}
use Rattle.drive.specs.Drive.{opened, parts_of, calls_among, records_of}
use Rattle.demands.specs.Accepted.{Bytes}
use Rattle.demands.specs.Demand3.{driven_by}
use Rattle.demands.specs.Conditions.{NodeAt, Nowhere}

-- calls after the opening of an input: plan, Ψ, slack and availabilities are read from its bytes
abbrev pub driven_of : List ℕ → List Call → Driven
driven_of b calls = driven_by (plan_of b (plan_length b)) (clock_at b (plan_length b + 2)) (little 8 b (plan_length b + 10)) (availabilities_from b (plan_length b + 19) (count_of b)) calls

-- the log of an input: of all calls that its bytes hold
abbrev pub log_of : List ℕ → Log
log_of b = (driven_of b (calls_among (parts_of b))).log

-- the records of the answers of a log, the oldest first, before others
abbrev pub answers_of : Log → List Record → List Record
answers_of [] later = later
answers_of (y ∷ log) later = answers_of log (reply_record y.reply ∷ later)

-- of the records of a list of parts those of its calls
abbrev pub at_calls : List Part → List Record → List Record
at_calls [] records = []
at_calls (part ∷ parts) [] = []
at_calls (Part.Call call ∷ parts) (r ∷ records) = r ∷ at_calls parts records
at_calls (Part.Place position node ∷ parts) (r ∷ records) = at_calls parts records

-- the records after that of the opening
pub record PartsRecords (b : List ℕ) (records : List Record) : Type 0 where
  -- one for each part
  pub each : length records ≡ length (parts_of b)
  -- those of the calls, in order, are the log's answers
  pub calls : at_calls (parts_of b) records ≡ answers_of (log_of b) []
  -- that of a question, which stands behind so many parts, is its node's place in the window of the run that the calls
  -- among these left
  pub places : (before after : List Part) (position node : ℕ) → parts_of b ≡ before ++ (Part.Place position node ∷ after)
      → take 1 (drop (length before) records)
      ≡ place_record (place_of position node (driven_of b (calls_among before)).run.window) ∷ []

abbrev pub StatementDriveRecords : Type 0
StatementDriveRecords =
    (b : List ℕ) → is_whole b ≡ true
    → (records : List Record) × (records_of b ≡ opening_record (opened b).opening ∷ records) × PartsRecords b records

-- ---- the place that a question is told

-- after an accepted opening it is the place of the window that holds the node, and 512 where none does
abbrev pub StatementPlaceTold : Type 0
StatementPlaceTold =
    (bytes : List ℕ) → Bytes bytes → (psi : Clock) (slack : ℕ) (ts : List ℕ) → (open_of bytes psi slack ts).opening ≡ Opening.Opened → (cs : List Call) (position node : ℕ)
    → ((i : ℕ) → NodeAt (driven_by bytes psi slack ts cs).run position node i → place_of position node (driven_by bytes psi slack ts cs).run.window ≡ i)
    × (Nowhere (NodeAt (driven_by bytes psi slack ts cs).run position node) → place_of position node (driven_by bytes psi slack ts cs).run.window ≡ 512)

-- after a refused one it is 512
abbrev pub StatementRefusedPlaces : Type 0
StatementRefusedPlaces =
    (bytes : List ℕ) (psi : Clock) (slack : ℕ) (ts : List ℕ) (u : Unopened) → (open_of bytes psi slack ts).opening ≡ Opening.Refused u → (cs : List Call) (position node : ℕ)
    → place_of position node (driven_by bytes psi slack ts cs).run.window ≡ 512
