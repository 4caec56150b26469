-- A node's map is the sum of its bits.
use native.Mathlib.Omega.{arith}
use mathlib.Core.Path.{◌∙◌, ap}
use Prim.Native.Nat.{ℕ}
use Rattle.wire.specs.Number.{present}
use Rattle.plan_write.specs.Inner.Bits.{digit}
use Rattle.plan_write.proofs.Laws.Sums.{node_sum}
use Rattle.plan_file.specs.PlanFile.{node_map}
use Rattle.plan_write.proofs.bytes.node_map.Goals as goal

pub returns : goal.returns
unfolding node_map
returns c = let n = c.args.n in
    let e = ap (λ (x : ℕ). digit (present x)) c.u8_to_u32.ensures in
    omega (arith, node_sum n.kind (present n.duration) (present n.count), c.bit_of-c.ensures.0 ∙ e)
