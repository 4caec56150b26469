-- "Adding the start time Ψ" to what the window holds: the stored times lie within the horizon, so that every sum fits.
use Rattle.std.specs.Prelude.{◌≡◌, true, List, ℕ, ◌≤◌, ◌<◌, get_or}
use Rattle.time.specs.Time.{horizon}
use Rattle.run_window.specs.declared.Entry.{Entry}
use Rattle.run_window.specs.Window.{vacant, is_held, node_place}

-- the times of a place that holds a node are at most 10^15
abbrev pub InTime : Entry → Type 0
InTime e = is_held e.phase ≡ true → (e.start.0 ≤ horizon) × (e.end.0 ≤ horizon)

-- of every place
abbrev pub AllInTime : List Entry → Type 0
AllInTime w = (i : ℕ) → InTime (get_or w i vacant)

-- a place that holds a node names one of the 2,048 that a plan has room for
abbrev pub Named : Entry → Type 0
Named e = is_held e.phase ≡ true → node_place e < 2048

abbrev pub AllNamed : List Entry → Type 0
AllNamed w = (i : ℕ) → Named (get_or w i vacant)
