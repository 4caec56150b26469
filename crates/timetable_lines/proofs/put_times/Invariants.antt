-- The loop over the times: what is left is put after what was put.
use Rattle.timetable_lines.specs.Inner.Lines.{spaced, Remains}
use Rattle.times.specs.Times.{specified}
use Rattle.basis.specs.Parts.{part}
use lib.ListN.{length}
use Prim.Native.Nat.{◌+◌, ◌*◌, ◌-◌, ◌≤◌}
use mathlib.Core.Path.{◌≡◌}
use Rattle.timetable_lines.proofs.put_times.Given as goal

abbrev pub invariant-loop-i : goal.invariant-loop-i
invariant-loop-i l = (l.off ≤ l.at + 21 * l.i) × (length l.out ≡ length l.initial.out)
    × Remains l.initial.out l.at (spaced (part (specified 0) l.times 0 l.count)) l.out l.off (spaced (part (specified 0) l.times l.i (l.count - l.i)))
