-- A host in C or Rust: what the exported functions answer to any opening and any list of calls, each given the bytes of the run
-- that the one before left.
use Rattle.std.specs.Prelude.{◌≡◌, true, List, [], ◌∷◌, map, ◌↔◌, ℕ, Some}
use Rattle.basis.specs.Lists.{Among}
use Rattle.judge.specs.Judge.{judge_of}
use Rattle.run_checks.specs.declared.Stop.{Stop}
use Rattle.run.specs.declared.Call.{Call}
use Rattle.run.specs.declared.Reply.{Reply}
use Rattle.run.specs.declared.Opening.{Opening}
use Rattle.run.specs.Limits.{run_in_limits}
use Rattle.run.specs.Calls.{ask_of, completion_of, outcome_of}
use Rattle.run.specs.Opening.{open_of, zero_run}
use Rattle.held.specs.declared.Held.{Held}
use Rattle.held.specs.Held.{run_of, held_of}
use Rattle.jidlekuvo.specs.declared.HostReply.{HostReply}
use Rattle.jidlekuvo.specs.declared.HeldOpened.{HeldOpened}
use Rattle.jidlekuvo.specs.Replies.{told_of, opening_told, reply_of}
use Rattle.jidlekuvo.specs.Host.{clock, opened_as, held_after}
use Rattle.demands_log.specs.Log.{Log, said}
use Rattle.demands_log.specs.Drive.{Driven, drive}
use Rattle.demands.specs.Accepted.{Bytes}
use Rattle.demands.specs.Demand3.{driven_by, Demand3Of}
use Rattle.demands.specs.Messages.{replies_of}

-- ---- the exported functions, by their contracts

-- jidlekuvo_open
abbrev pub opened_by : List ℕ → ℕ → ℕ → List ℕ → HeldOpened
opened_by bytes psi slack ts = opened_as (open_of bytes (clock psi) slack ts)

-- what jidlekuvo_ask, jidlekuvo_completion and jidlekuvo_outcome return
abbrev pub replied : Held → Call → HostReply
replied h (Call.Ask t) = told_of (ask_of (run_of h) (clock t.0)).reply
replied h (Call.Completion t p n) = told_of (completion_of (run_of h) (clock t.0) p n).reply
replied h (Call.Outcome t p n o) = told_of (outcome_of (run_of h) (clock t.0) p n o).reply

-- and the bytes of the run that they leave
abbrev pub left_by : Held → Call → Held
left_by h (Call.Ask t) = held_after h (ask_of (run_of h) (clock t.0))
left_by h (Call.Completion t p n) = held_after h (completion_of (run_of h) (clock t.0) p n)
left_by h (Call.Outcome t p n o) = held_after h (outcome_of (run_of h) (clock t.0) p n o)

-- ---- a list of calls

abbrev pub replies_to : Held → List Call → List HostReply
replies_to h [] = []
replies_to h (c ∷ cs) = replied h c ∷ replies_to (left_by h c) cs

abbrev pub left_by_all : Held → List Call → Held
left_by_all h [] = h
left_by_all h (c ∷ cs) = left_by_all (left_by h c) cs

-- the host's log: its calls, each with the reply that it reads
abbrev pub written : Log → List Call → List HostReply → Log
written log [] rs = log
written log (c ∷ cs) [] = log
written log (c ∷ cs) (r ∷ rs) = written (said c (reply_of r) ∷ log) cs rs

-- and the run that its bytes are read as in the end
abbrev pub hosted : Held → List Call → Driven
hosted h cs = record { log = written [] cs (replies_to h cs); run = run_of (left_by_all h cs) }

-- ---- it is a run's

-- of any bytes, made-up ones too: the replies are the numbers of those of `Run::call`, in order, and log and run are its own
pub record HostLog (h : Held) (cs : List Call) : Type 0 where
  pub replies : replies_to h cs ≡ map told_of (replies_of (drive [] (run_of h) cs).log [])
  pub driven : hosted h cs ≡ drive [] (run_of h) cs

abbrev pub StatementHostLog : Type 0
StatementHostLog = (h : Held) (cs : List Call) → HostLog h cs

-- an opening answers what `Run::open` does, and the calls after it what `Run::call` does of the run that this made
pub record HostOpening (bytes : List ℕ) (psi slack : ℕ) (ts : List ℕ) (cs : List Call) : Type 0 where
  pub reply : (opened_by bytes psi slack ts).reply ≡ opening_told (open_of bytes (clock psi) slack ts).opening
  -- kind 0 says that it is accepted
  pub opened : ((opened_by bytes psi slack ts).reply.kind ≡ 0) ↔ ((open_of bytes (clock psi) slack ts).opening ≡ Opening.Opened)
  pub replies : replies_to (opened_by bytes psi slack ts).run cs
      ≡ map told_of (replies_of (driven_by bytes (clock psi) slack ts cs).log [])
  pub driven : hosted (opened_by bytes psi slack ts).run cs ≡ driven_by bytes (clock psi) slack ts cs

abbrev pub StatementHostOpening : Type 0
StatementHostOpening = (bytes : List ℕ) (psi slack : ℕ) (ts : List ℕ) (cs : List Call) → HostOpening bytes psi slack ts cs

-- so demand 3 holds of the exported functions
abbrev pub StatementHostDemand3 : Type 0
StatementHostDemand3 =
    (bytes : List ℕ) → Bytes bytes → (psi slack : ℕ) (ts : List ℕ) → (opened_by bytes psi slack ts).reply.kind ≡ 0 → (cs : List Call)
    → Demand3Of (judge_of bytes).plan (clock psi) slack ts (hosted (opened_by bytes psi slack ts).run cs)

-- and no call gets 50 after an accepted opening
abbrev pub StatementHostNever50 : Type 0
StatementHostNever50 =
    (bytes : List ℕ) → Bytes bytes → (psi slack : ℕ) (ts : List ℕ) → (opened_by bytes psi slack ts).reply.kind ≡ 0 → (cs : List Call)
    → (r : HostReply) → Among r (replies_to (opened_by bytes psi slack ts).run cs) → r.kind ≡ 5 → r.number ≡ 50 → ⊥

-- ---- what leaves every byte, made-up ones included

pub record HeldUnchanged (h : Held) (c : Call) : Type 0 where
  -- a refused call
  pub refused : (replied h c).kind ≡ 5 → left_by h c ≡ h
  -- a call to a run that keeps a stop
  pub stopped : (s : Stop) → (run_of h).halt ≡ Some s → left_by h c ≡ h
  -- and every call leaves the plan's
  pub plan : (left_by h c).plan ≡ h.plan

abbrev pub StatementHeldUnchanged : Type 0
StatementHeldUnchanged = (h : Held) (c : Call) → HeldUnchanged h c

-- each of the calls gets the reply r and leaves every byte
pub record Stays (h : Held) (r : HostReply) (cs : List Call) : Type 0 where
  pub replies : replies_to h cs ≡ map (λ c. r) cs
  pub bytes : left_by_all h cs ≡ h

-- a run in limits that keeps a stop answers it, whatever calls come
abbrev pub StatementHostStopKept : Type 0
StatementHostStopKept =
    (h : Held) (s : Stop) → run_in_limits (run_of h) ≡ true → (run_of h).halt ≡ Some s → (cs : List Call)
    → Stays h (told_of (Reply.Stopped s)) cs

-- and every stop is kept: after kind 6 all calls get the same reply
abbrev pub StatementHostStopRepeated : Type 0
StatementHostStopRepeated = (h : Held) (c : Call) → (replied h c).kind ≡ 6 → (cs : List Call) → Stays (left_by h c) (replied h c) cs

-- 50, in numbers
abbrev pub told50 : HostReply
told50 = record { place = 0; position = 0; kind = 5; number = 50; activity = 0; node = 0 }

-- a refused opening returns the run of zeros, every call of which gets 50
pub record HostUnopened (bytes : List ℕ) (psi slack : ℕ) (ts : List ℕ) (cs : List Call) : Type 0 where
  pub zeros : (opened_by bytes psi slack ts).run ≡ held_of zero_run
  pub gets50 : Stays (opened_by bytes psi slack ts).run told50 cs

abbrev pub StatementHostUnopened : Type 0
StatementHostUnopened =
    (bytes : List ℕ) (psi slack : ℕ) (ts : List ℕ) → (opened_by bytes psi slack ts).reply.kind ≡ 5 → (cs : List Call)
    → HostUnopened bytes psi slack ts cs
