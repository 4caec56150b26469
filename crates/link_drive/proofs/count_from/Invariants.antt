-- Counting the messages: those counted and those from `at` on are all.
use mathlib.Core.Path.{◌≡◌}
use Prim.Native.Nat.{◌+◌, ◌-◌, ◌≤◌}
use lib.ListN.{length}
use Rattle.link_drive.specs.LinkDrive.{messages_from}
use Rattle.link_drive.proofs.count_from.Given as goal

abbrev pub invariant-loop-count : goal.invariant-loop-count
invariant-loop-count l = (l.at ≤ length l.input)
    × (l.count + length (messages_from (length l.input - l.count) l.input l.at) ≡ length (messages_from (length l.input) l.input l.from))
