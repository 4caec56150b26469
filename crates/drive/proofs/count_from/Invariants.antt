-- Counting the parts: those counted and those from `at` on are all.
use mathlib.Core.Path.{◌≡◌}
use Prim.Native.Nat.{◌+◌, ◌-◌, ◌≤◌}
use lib.ListN.{length}
use Rattle.drive.specs.Drive.{parts_from}
use Rattle.drive.proofs.count_from.Given as goal

abbrev pub invariant-loop-count : goal.invariant-loop-count
invariant-loop-count l = (l.at ≤ length l.input)
    × (l.count + length (parts_from (length l.input - l.count) l.input l.at) ≡ length (parts_from (length l.input) l.input l.from))
