-- Each part of the opening is there, or the input ends inside the opening.
use mathlib.Core.Path.{refl, ap}
use native.Mathlib.Omega.{arith}
use Prim.Native.Nat.{ℕ, ◌+◌, ◌*◌, ◌<◌}
use Rattle.drive_input.proofs.Offsets.{head_cut, times_cut, head_there}
use Rattle.drive_input.proofs.head_of.Goals as goal

pub returns-then-size-lt19 : goal.returns-then-size-lt19
returns-then-size-lt19 c = let a = c.args in head_cut a.input.now (omega arith)

pub returns-then-size-n : goal.returns-then-size-n
returns-then-size-n c = let a = c.args in head_cut a.input.now (omega (arith, c.two-n.ensures.0))

pub overflow_mul-parts : goal.overflow_mul-parts
overflow_mul-parts c =
    let few : c.from.result < 256 = omega (arith, c.type_inv.input (c.two-n.result + 18)) in
    omega (arith, few)

pub overflow_add-parts-2 : goal.overflow_add-parts-2
overflow_add-parts-2 c =
    let few : c.from.result < 256 = omega (arith, c.type_inv.input (c.two-n.result + 18)) in
    omega (arith, few)

pub returns-then-size-parts : goal.returns-then-size-parts
returns-then-size-parts c = let a = c.args in times_cut a.input.now _ _ _ c.two-n.ensures.0 c.from.ensures refl (omega arith)

pub returns : goal.returns
returns c = let a = c.args in let p = ap (λ (k : ℕ). c.two-n.result + 19 + 8 * k) c.from.ensures in head_there a.input.now _ _ _ c.two-n.ensures.0 refl p _ _ c.eight.ensures c.eight-2.ensures (omega arith)
