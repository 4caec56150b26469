-- "Who can cause which number": the number, and the place or node, of each refusal, stop and reply.
use Rattle.std.specs.Prelude.{ℕ}
use Rattle.plan.specs.Fault.{number_of}
use Rattle.run_checks.specs.declared.Stop.{Stop}
use Rattle.run_checks.specs.declared.Refusal.{Refusal}
use Rattle.run.specs.declared.Unopened.{Unopened}

-- the host that calls
abbrev pub refusal_number : Refusal → ℕ
refusal_number Refusal.OutOfLimits = 50
refusal_number Refusal.ReadingBelow = 51
refusal_number Refusal.NoSuchNode = 52
refusal_number Refusal.NotStarted = 53
refusal_number Refusal.OtherKind = 54
refusal_number Refusal.OutcomeLacking = 55
-- of a message that is no call
refusal_number Refusal.Unlisted = 61
refusal_number Refusal.Length = 62

-- stops: late, overdue, and those of loading, which have no node
abbrev pub stop_number : Stop → ℕ
stop_number (Stop.Late p n) = 41
stop_number (Stop.Overdue p n) = 42
stop_number Stop.Full = 43
stop_number Stop.Beyond = 44

-- the host that opens
abbrev pub open_number : Unopened → ℕ
open_number (Unopened.Plan f place) = number_of f
open_number Unopened.Availabilities = 30
open_number Unopened.Time = 31
open_number Unopened.Slack = 32
open_number (Unopened.Short a) = 33
open_number Unopened.Beyond = 44
open_number Unopened.Full = 43

-- "place 0 unless said"
abbrev pub open_place : Unopened → ℕ
open_place (Unopened.Plan f place) = place
open_place Unopened.Availabilities = 0
open_place Unopened.Time = 0
open_place Unopened.Slack = 0
open_place (Unopened.Short a) = a
open_place Unopened.Beyond = 0
open_place Unopened.Full = 0
