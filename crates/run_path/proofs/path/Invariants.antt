-- `path` meets its contract. The outer loop's invariant: the path is the part so far and then the path from what the state does
-- next; the inner loops copy an activity out of the plan, and put the entries of its nodes after those before. Assumes nothing.
use mathlib.Core.Path.{◌≡◌}
use Prim.Native.Nat.{◌-◌, ◌≤◌, ◌<◌}
use lib.ListN.{length}
use Rattle.activity.specs.Inner.Copied.{filled}
use Rattle.run_path.specs.Path.{path_from}
use Rattle.run_path.proofs.Laws.Stepping.{Walking}
use Rattle.run_path.proofs.Laws.Storing.{Storing}
use Rattle.run_path.proofs.path.Given as goal

abbrev pub invariant-loop-n : goal.invariant-loop-n
invariant-loop-n l = (l.count ≤ 64) × (l.a < 32) × (l.nodes ≡ filled l.plan l.a l.n)

abbrev pub invariant-loop-n-2 : goal.invariant-loop-n-2
invariant-loop-n-2 l = Storing l.g.position l.a l.times l.nodes l.count l.initial.found l.found l.n

abbrev pub invariant-loop : goal.invariant-loop
invariant-loop l = Walking l.plan (path_from l.plan 64 l.initial.next l.initial.found.progress) (64 - l.counter) l.next l.found × (length l.found.entries ≡ 512)
