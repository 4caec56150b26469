-- The loop over the nodes of an activity: the whole answer is the answer of what is left.
use mathlib.Core.Path.{◌≡◌}
use mathlib.Core.List.{List}
use Prim.Native.Nat.{ℕ, ◌+◌, ◌-◌, ◌≤◌}
use lib.ListN.{length}
use Rattle.plan.specs.Fields.{Read}
use Rattle.plan.specs.Sections.{nodes_then}
use Rattle.plan.specs.declared.Node.{Node}
use Rattle.plan.specs.declared.fields.Activities.{Activities}
use Rattle.plan_sections.proofs.nodes_from.Given as goal

abbrev pub invariant-loop-n : goal.invariant-loop-n
invariant-loop-n l = (l.n ≤ l.size) × (l.first + l.size ≤ 2048) × (length l.all ≡ 2048)
    × ((follow : ℕ → List Node → Read Activities)
    → nodes_then l.named.peripherals l.named.resources l.named.events l.bytes follow l.size l.size l.at l.first l.initial.all
    ≡ nodes_then l.named.peripherals l.named.resources l.named.events l.bytes follow l.size (l.size - l.n) l.off (l.first + l.n) l.all)
