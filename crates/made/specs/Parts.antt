-- The plan, the progress and the window of a made-up run: one line for each field.
use Rattle.std.specs.Prelude.{List, ℕ}
use Rattle.wire.specs.Number.{little}
use Rattle.plan.specs.declared.Automaton.{Automaton}
use Rattle.plan.specs.declared.Plan.{Plan}
use Rattle.times.specs.declared.Progress.{Progress}
use Rattle.run_window.specs.declared.Entry.{Entry}
use Rattle.made.specs.Layout.{node_size, move_size, instance_size, entry_size, time_size, resources_from, peripherals_from, belongs_from, events_from, outcomes_from, activities_from, sizes_from, nodes_from, states_from, initial_from, finals_from, count_from, moves_from, available_from, latest_from, lengths_from, pending_from, position_from, state_from, window_from}
use Rattle.made.specs.Values.{byte_at, time_at, array_at, node_at, move_at, instance_at, entry_at}

unfoldable pub automaton_of : List ℕ → Automaton
automaton_of b = record {
  states = byte_at b states_from;
  initial = byte_at b initial_from;
  finals = little 8 b finals_from;
  count = little 2 b count_from;
  moves = array_at move_at move_size 256 b moves_from;
}

unfoldable pub plan_of : List ℕ → Plan
plan_of b = record {
  resources = byte_at b resources_from;
  peripherals = byte_at b peripherals_from;
  belongs = array_at byte_at 1 64 b belongs_from;
  events = byte_at b events_from;
  outcomes = array_at byte_at 1 16 b outcomes_from;
  activities = byte_at b activities_from;
  sizes = array_at byte_at 1 32 b sizes_from;
  nodes = array_at node_at node_size 2048 b nodes_from;
  automaton = automaton_of b;
}

unfoldable pub progress_of : List ℕ → Progress
progress_of b = record {
  available = array_at time_at time_size 16 b available_from;
  latest = array_at time_at time_size 16 b latest_from;
  lengths = array_at byte_at 1 16 b lengths_from;
  pending = array_at instance_at instance_size 128 b pending_from;
  position = little 4 b position_from;
  state = byte_at b state_from;
}

unfoldable pub window_of : List ℕ → List Entry
window_of b = array_at entry_at entry_size 512 b window_from
