-- "50 a run in which a stored count, number or time lies outside this paper's or its plan's limits": the slack and the stop.
use Rattle.std.specs.Prelude.{Bool, true, ◌&&◌, ℕ, ltb, leb, Option, Some, None}
use Rattle.times.specs.Engine.{last_position}
use Rattle.run_checks.specs.declared.Stop.{Stop}

-- the node that a stop names
abbrev pub node_named : ℕ → ℕ → Bool
node_named p n = leb p last_position && ltb n 64

abbrev pub stop_in_limits : Stop → Bool
stop_in_limits (Stop.Late p n) = node_named p n
stop_in_limits (Stop.Overdue p n) = node_named p n
stop_in_limits Stop.Full = true
stop_in_limits Stop.Beyond = true

abbrev pub halt_in_limits : Option Stop → Bool
halt_in_limits None = true
halt_in_limits (Some s) = stop_in_limits s

-- "a slack of 1 to 1,000,000"
abbrev pub slack_in_limits : ℕ → Bool
slack_in_limits slack = leb 1 slack && leb slack 1_000_000
