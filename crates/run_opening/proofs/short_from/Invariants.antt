-- `short_from` is the lowest activity that is too short. The loops' invariants: the activities, and the nodes of one, that are
-- passed change nothing.
use mathlib.Core.Path.{◌≡◌}
use Prim.Native.Nat.{◌+◌, ◌-◌, ◌*◌}
use Rattle.basis.specs.Parts.{part}
use Rattle.plan.specs.Plan.{past_node, size_of, activity_of}
use Rattle.run_opening.specs.Short.{any_short, short_from}
use Rattle.run_opening.proofs.short_from.Given as goal

abbrev pub invariant-loop-n : goal.invariant-loop-n
invariant-loop-n l = any_short l.slack (activity_of l.plan l.a) ≡ any_short l.slack (part past_node l.plan.nodes (64 * l.a + l.n) (size_of l.plan l.a - l.n))

abbrev pub invariant-loop-a : goal.invariant-loop-a
invariant-loop-a l = short_from l.plan l.slack 0 l.plan.activities ≡ short_from l.plan l.slack l.a (l.plan.activities - l.a)
