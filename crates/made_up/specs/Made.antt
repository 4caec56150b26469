-- A made-up run, one line for each field, and the two calls behind it.
use Rattle.std.specs.Prelude.{cond, List, ℕ, ◌+◌, ◌%◌, eqb, Option, Some, None}
use Rattle.wire.specs.Number.{little}
use Rattle.time.specs.declared.Clock.{Clock}
use Rattle.made.specs.Layout.{psi_from, slack_from, last_from, halt_from}
use Rattle.made.specs.Values.{byte_at}
use Rattle.made.specs.Parts.{plan_of, progress_of, window_of}
use Rattle.run.specs.declared.Run.{Run}
use Rattle.run_checks.specs.declared.Stop.{Stop}
use Rattle.run.specs.declared.Call.{Call}

abbrev pub clock_at : List ℕ → ℕ → Clock
clock_at b at = record { 0 = little 8 b at }

-- ---- the run

unfoldable pub stop_of : ℕ → ℕ → ℕ → Stop
stop_of tag position node =
    cond (eqb (tag % 4) 0) (Stop.Late position node)
    (cond (eqb (tag % 4) 1) (Stop.Overdue position node) (cond (eqb (tag % 4) 2) Stop.Full Stop.Beyond))

unfoldable pub halt_of : ℕ → Stop → Option Stop
halt_of tag stop = cond (eqb (tag % 2) 0) None (Some stop)

-- whether it has stopped, the stop, its position (4) and its node
abbrev pub halt_at : List ℕ → ℕ → Option Stop
halt_at b at = halt_of (byte_at b at) (stop_of (byte_at b (at + 1)) (little 4 b (at + 2)) (byte_at b (at + 6)))

unfoldable pub made_of : List ℕ → Run
made_of b = record {
  plan = plan_of b;
  psi = clock_at b psi_from;
  slack = little 8 b slack_from;
  progress = progress_of b;
  window = window_of b;
  last = clock_at b last_from;
  halt = halt_at b halt_from;
}

-- ---- a call

-- kind 1 is a completion, kind 2 an outcome, any other an ask
unfoldable pub call_of_kind : ℕ → Clock → ℕ → ℕ → ℕ → Call
call_of_kind kind t position node outcome =
    cond (eqb kind 1) (Call.Completion t position node) (cond (eqb kind 2) (Call.Outcome t position node outcome) (Call.Ask t))

-- kind, reading (8), position (4), node, outcome
unfoldable pub call_at : List ℕ → ℕ → Call
call_at b at = call_of_kind (byte_at b at) (clock_at b (at + 1)) (little 4 b (at + 9)) (byte_at b (at + 13)) (byte_at b (at + 14))

abbrev pub first_from : ℕ
first_from = halt_from + 7

abbrev pub second_from : ℕ
second_from = first_from + 15
