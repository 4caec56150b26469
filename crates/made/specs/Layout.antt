-- Where each part of a made-up run stands in its bytes: one behind the other, in the order in which `Run` declares them.
use Rattle.std.specs.Prelude.{ℕ, ◌+◌, ◌*◌}

-- ---- how many bytes an element of an array takes

-- kind and its two numbers, duration (4), how many predecessors, eight predecessors
abbrev pub node_size : ℕ
node_size = 16

-- from, to, input and its two numbers, output and its number
abbrev pub move_size : ℕ
move_size = 7

-- position (4), node, completion (8), what was told and its number
abbrev pub instance_size : ℕ
instance_size = 15

-- phase, position (4), activity, node, start (8), completion (8)
abbrev pub entry_size : ℕ
entry_size = 23

abbrev pub time_size : ℕ
time_size = 8

-- ---- the plan

abbrev pub resources_from : ℕ
resources_from = 0

abbrev pub peripherals_from : ℕ
peripherals_from = resources_from + 1

abbrev pub belongs_from : ℕ
belongs_from = peripherals_from + 1

abbrev pub events_from : ℕ
events_from = belongs_from + 64

abbrev pub outcomes_from : ℕ
outcomes_from = events_from + 1

abbrev pub activities_from : ℕ
activities_from = outcomes_from + 16

abbrev pub sizes_from : ℕ
sizes_from = activities_from + 1

abbrev pub nodes_from : ℕ
nodes_from = sizes_from + 32

abbrev pub states_from : ℕ
states_from = nodes_from + 2048 * node_size

abbrev pub initial_from : ℕ
initial_from = states_from + 1

abbrev pub finals_from : ℕ
finals_from = initial_from + 1

abbrev pub count_from : ℕ
count_from = finals_from + 8

abbrev pub moves_from : ℕ
moves_from = count_from + 2

-- ---- Ψ and the slack

abbrev pub psi_from : ℕ
psi_from = moves_from + 256 * move_size

abbrev pub slack_from : ℕ
slack_from = psi_from + time_size

-- ---- where the behaviour stands

abbrev pub available_from : ℕ
available_from = slack_from + 8

abbrev pub latest_from : ℕ
latest_from = available_from + 16 * time_size

abbrev pub lengths_from : ℕ
lengths_from = latest_from + 16 * time_size

abbrev pub pending_from : ℕ
pending_from = lengths_from + 16

abbrev pub position_from : ℕ
position_from = pending_from + 128 * instance_size

abbrev pub state_from : ℕ
state_from = position_from + 4

-- ---- the window, and what stands behind it

abbrev pub window_from : ℕ
window_from = state_from + 1

abbrev pub last_from : ℕ
last_from = window_from + 512 * entry_size

abbrev pub halt_from : ℕ
halt_from = last_from + time_size
