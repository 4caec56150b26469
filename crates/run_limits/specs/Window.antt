-- The limits of the window of a run (number 50), as tests.
use Rattle.std.specs.Prelude.{Bool, true, ◌&&◌, ◌||◌, List, [], ◌∷◌, ℕ, get_or, ltb, leb}
use Rattle.time.specs.Time.{horizon}
use Rattle.times.specs.Engine.{last_position}
use Rattle.run_window.specs.Window.{is_free}
use Rattle.run_window.specs.declared.Entry.{Entry}

-- node n of activity a is one of the plan's, whose activities have these sizes
abbrev pub names_node : ℕ → List ℕ → ℕ → ℕ → Bool
names_node activities sizes a n = ltb a activities && ltb n (get_or sizes a 0)

-- a place that is held names a node of the plan, and its times are at most 10^15
unfoldable pub entry_in_limits : ℕ → List ℕ → Entry → Bool
entry_in_limits activities sizes e =
    is_free e.phase
    || (leb e.position last_position
    && (names_node activities sizes e.activity e.node
    && (leb e.start.0 horizon && leb e.end.0 horizon)))

unfoldable pub window_in_limits : ℕ → List ℕ → List Entry → Bool
window_in_limits activities sizes [] = true
window_in_limits activities sizes (e ∷ es) = entry_in_limits activities sizes e && window_in_limits activities sizes es
