-- "K1 to K12 are shown about the definitions by one claim over a list of them."
use Rattle.std.specs.Prelude.{◌≡◌, List, [], ◌∷◌, ◌++◌, ℕ, Ok, Err}
use Rattle.time.specs.declared.Clock.{Clock}
use Rattle.plan.specs.Fault.{number_of}
use Rattle.plan.specs.Verdict.{Verdict}
use Rattle.judge.specs.Judge.{judge_of}
use Rattle.run.specs.declared.Run.{Run}
use Rattle.run.specs.declared.Reply.{Reply}
use Rattle.run.specs.declared.Call.{Call}
use Rattle.run.specs.declared.Opening.{Opening}
use Rattle.run.specs.Numbers.{refusal_number, stop_number, open_number, open_place}
use Rattle.run.specs.Opening.{open_of}
use Rattle.run.specs.Calls.{call_of}
use Rattle.timetable_turns.specs.Timetable.{timetable_of}
use Rattle.demands_log.specs.Drive.{drive}
use Rattle.demands.specs.Inputs.{plan_t, plan_k3, input_t, printed_t}

-- what is given
pub data Given : Type 0 where
  -- a plan file
  file : List ℕ → Given
  -- the input of timetable
  input : List ℕ → Given
  -- an opening: plan file, Ψ, slack, availabilities
  opening : List ℕ → ℕ → ℕ → List ℕ → Given
  -- an opening, calls, and one call more
  calls : List ℕ → ℕ → ℕ → List ℕ → List Call → Call → Given

-- what comes of it
pub data Result : Type 0 where
  accepted : Result
  opened : Result
  -- number and place
  refused : ℕ → ℕ → Result
  printed : List ℕ → Result
  -- position, activity, node
  start : ℕ → ℕ → ℕ → Result
  wait : Result
  done : Result
  taken : Result
  -- number
  refused_call : ℕ → Result
  stop : ℕ → Result

abbrev pub of_verdict : Verdict → Result
of_verdict (Ok u) = accepted
of_verdict (Err e) = refused (number_of e.fault) e.place

abbrev pub of_opening : Opening → Result
of_opening Opening.Opened = opened
of_opening (Opening.Refused u) = refused (open_number u) (open_place u)

abbrev pub of_reply : Reply → Result
of_reply (Reply.Start p a n) = start p a n
of_reply Reply.Wait = wait
of_reply Reply.Done = done
of_reply Reply.Taken = taken
of_reply (Reply.Refused f) = refused_call (refusal_number f)
of_reply (Reply.Stopped s) = stop (stop_number s)

abbrev pub clock : ℕ → Clock
clock t = record { 0 = t }

-- the run after some calls
abbrev pub run_after : Run → List Call → Run
run_after run cs = (drive [] run cs).run

abbrev pub result_of : Given → Result
result_of (file bytes) = of_verdict (judge_of bytes).verdict
result_of (input bytes) = printed (timetable_of bytes)
result_of (opening bytes psi slack ts) = of_opening (open_of bytes (clock psi) slack ts).opening
result_of (calls bytes psi slack ts cs c) = of_reply (call_of (run_after (open_of bytes (clock psi) slack ts).run cs) c).reply

-- a case: what is given and what comes of it
pub record Case : Type 0 where
  pub given : Given
  pub result : Result

infix 5 ◌gives◌
abbrev pub ◌gives◌ : Given → Result → Case
◌gives◌ g r = record { given = g; result = r }

abbrev pub ask : ℕ → Call
ask t = Call.Ask (clock t)

abbrev pub completion : ℕ → ℕ → ℕ → Call
completion t p n = Call.Completion (clock t) p n

-- "For K8 to K12: T, Ψ 1,000,000, slack 500, availabilities 0."
abbrev pub run_t : List Call → Call → Given
run_t cs c = calls plan_t 1_000_000 500 (0 ∷ 0 ∷ []) cs c

abbrev pub horizon_less : ℕ → List ℕ
horizon_less t = t ∷ t ∷ []

abbrev pub the_cases : List Case
the_cases =
    -- K1 empty file: 1, place 0. K2 file 00: 7, place 0.
    (file [] gives refused 1 0)
    ∷ (file (0x00 ∷ []) gives refused 7 0)
    -- K3 accepted, and its first ask is done.
    ∷ (file plan_k3 gives accepted)
    ∷ (calls plan_k3 0 1 [] [] (ask 0) gives done)
    -- K4 T printed as above. K5 T and one more byte: 6, place 93.
    ∷ (input input_t gives printed printed_t)
    ∷ (file (plan_t ++ (0x00 ∷ [])) gives refused 6 93)
    -- K6 T, slack 999 opens; 1,000 gives 33, place 0.
    ∷ (opening plan_t 0 999 (0 ∷ 0 ∷ []) gives opened)
    ∷ (opening plan_t 0 1_000 (0 ∷ 0 ∷ []) gives refused 33 0)
    -- K7 T, both availabilities 10^15 − 9,000, opens; 10^15 − 8,999 gives 44.
    ∷ (opening plan_t 0 500 (999_999_999_991_000 ∷ 999_999_999_991_000 ∷ []) gives opened)
    ∷ (opening plan_t 0 500 (999_999_999_991_001 ∷ 999_999_999_991_001 ∷ []) gives refused 44 0)
    -- K8 ask at 999,999: wait.
    ∷ (run_t [] (ask 999_999) gives wait)
    -- K9 first ask at 1,000,500: start (0, 0, 2); at 1,000,501: stop 41.
    ∷ (run_t [] (ask 1_000_500) gives start 0 0 2)
    ∷ (run_t [] (ask 1_000_501) gives stop 41)
    -- K10 started at 1,000,000, node 2 reported at 1,002,999: taken; at 1,003,000: stop 42.
    ∷ (run_t (ask 1_000_000 ∷ []) (completion 1_002_999 0 2) gives taken)
    ∷ (run_t (ask 1_000_000 ∷ []) (completion 1_003_000 0 2) gives stop 42)
    -- K11 after that report, ask at 1,003,000: start (0, 0, 3).
    ∷ (run_t (ask 1_000_000 ∷ completion 1_002_999 0 2 ∷ []) (ask 1_003_000) gives start 0 0 3)
    -- K12 a later call at 1,002,998: 51.
    ∷ (run_t (ask 1_000_000 ∷ completion 1_002_999 0 2 ∷ ask 1_003_000 ∷ []) (ask 1_002_998) gives refused_call 51)
    ∷ []

-- each case of a list comes out as it says
abbrev pub AllHold : List Case → Type 0
AllHold [] = Unit {0}
AllHold (c ∷ cs) = (result_of c.given ≡ c.result) × AllHold cs
