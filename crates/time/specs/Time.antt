-- "Two kinds of time": specified time counts from zero; clock time is what the host's counter shows.
use Rattle.std.specs.Prelude.{ℕ, ◌+◌}
use Rattle.time.specs.declared.Specified.{Specified}
use Rattle.time.specs.declared.Clock.{Clock}

-- the largest time that an opening or a path may have, 10^15
abbrev pub horizon : ℕ
horizon = 1_000_000_000_000_000

-- "Adding the start time Ψ is the only way from one to the other."
abbrev pub to_clock : Clock → Specified → Clock
to_clock psi s = record { 0 = psi.0 + s.0 }
