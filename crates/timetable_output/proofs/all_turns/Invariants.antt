-- The text of the turns so far joined the text before, and the turns that are left complete it.
use Rattle.std.specs.Prelude.{◌≡◌, length}
use Rattle.timetable_streams.specs.Inner.Asking.{Held}
use Rattle.timetable_output.specs.Inner.Between.{Stands, Prints}
use Rattle.timetable_output.proofs.Turning.{between}
use Rattle.timetable_output.proofs.all_turns.Given as goal

abbrev pub invariant-loop-left : goal.invariant-loop-left
invariant-loop-left g l = record {
  size : length l.out ≡ 65_536;
  held : Held l.outcomes;
  stands : Stands l.fn.plan (between l.output l.taken l.left l.progress);
  prints :
      Prints l.fn.plan l.fn.first l.fn.out l.out (g.B.Read.remaining l.fn.from) (g.B.Read.remaining l.from) (g.W.Write.contents l.fn.to) (g.W.Write.contents l.to)
      (between l.output l.taken l.left l.progress);
}

abbrev pub decreases-loop-left : goal.decreases-loop-left
decreases-loop-left g l = l.left
