-- `put_turns` meets its contract: what is left is put after what was put. Assumes nothing.
use mathlib.Core.Path.{◌≡◌}
use Prim.Native.Nat.{◌≤◌}
use lib.ListN.{length}
use Rattle.timetable_lines.specs.Inner.Lines.{Remains}
use Rattle.timetable_turns.specs.Inner.Whole.{left_text, Standing}
use Rattle.timetable_turns.proofs.whole.put_turns.Given as goal

abbrev pub invariant-loop-w : goal.invariant-loop-w
invariant-loop-w l = (l.start ≤ 65_537) × Standing l.plan l.w × (length l.out ≡ length l.initial.out)
    × Remains l.initial.out l.initial.w.at (left_text l.plan l.start l.input l.initial.w) l.out l.w.at (left_text l.plan l.start l.input l.w)

abbrev pub decreases-loop-w : goal.decreases-loop-w
decreases-loop-w l = l.w.left
