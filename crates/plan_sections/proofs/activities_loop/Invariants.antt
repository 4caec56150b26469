-- The loop over the activities: the whole answer is the answer of what is left.
use mathlib.Core.Path.{◌≡◌}
use Prim.Native.Nat.{◌-◌, ◌≤◌}
use lib.ListN.{length, replicate}
use Rattle.plan.specs.Nodes.{zero_node}
use Rattle.plan.specs.Sections.{activities_loop}
use Rattle.plan_sections.proofs.activities_loop.Given as goal

abbrev pub invariant-loop-a : goal.invariant-loop-a
invariant-loop-a l = (l.a ≤ l.count) × (l.count ≤ 32) × (l.read.count ≡ l.count) × (length l.read.sizes ≡ 32) × (length l.read.nodes ≡ 2048)
    × (activities_loop l.named.peripherals l.named.resources l.named.events l.bytes l.count l.count l.at 0 (replicate 32 0) (replicate 2048 zero_node)
    ≡ activities_loop l.named.peripherals l.named.resources l.named.events l.bytes l.count (l.count - l.a) l.off l.a l.read.sizes l.read.nodes)
