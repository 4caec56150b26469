-- `answers_by_log`, as a statement: after an accepted opening and any list of calls, the answer to the next call is the one
-- that plan, Ψ, slack, availabilities, word, times and log give.
use Rattle.std.specs.Prelude.{◌≡◌, List, ◌↔◌, ℕ, get_or}
use Rattle.time.specs.declared.Clock.{Clock}
use Rattle.times_combined.specs.Combined.{Ident}
use Rattle.times_combined.specs.Times.{Timing}
use Rattle.judge.specs.Judge.{judge_of}
use Rattle.run.specs.Opening.{open_of}
use Rattle.run.specs.Calls.{call_of}
use Rattle.run.specs.declared.Call.{Call}
use Rattle.run.specs.declared.Reply.{Reply}
use Rattle.run.specs.declared.Opening.{Opening}
use Rattle.demands_theory.specs.TheWord.{whole_of, TheWord}
use Rattle.demands.specs.Accepted.{Bytes}
use Rattle.demands.specs.Demand3.{driven_by}
use Rattle.demands.specs.ByLog.{Answered}

abbrev pub StatementAnswersByLog : Type 0
StatementAnswersByLog =
    (bytes : List ℕ) → Bytes bytes → (psi : Clock) (slack : ℕ) (ts : List ℕ) → (open_of bytes psi slack ts).opening ≡ Opening.Opened → (cs : List Call)
    → (is : List ℕ) → TheWord (judge_of bytes).plan (driven_by bytes psi slack ts cs).log is
    → (S C : Ident → ℕ) → Timing (whole_of (judge_of bytes).plan is) (λ r. get_or ts r 0) S C
    → (c : Call) (r : Reply)
    → ((call_of (driven_by bytes psi slack ts cs).run c).reply ≡ r)
    ↔ Answered (record { plan = (judge_of bytes).plan; psi = psi.0; slack = slack; available = λ r. get_or ts r 0; word = is; S = S; C = C; log = (driven_by bytes psi slack ts cs).log }) c r
