-- The map of sections is the sum of its bits.
use native.Mathlib.Omega.{arith}
use mathlib.Core.Path.{◌∙◌, ap}
use Prim.Native.Nat.{ℕ}
use Rattle.wire.specs.Number.{present}
use Rattle.plan_write.specs.Inner.Bits.{digit}
use Rattle.plan_write.proofs.Laws.Sums.{section_sum}
use Rattle.plan_write.proofs.bytes.section_map.Goals as goal

pub returns : goal.returns
returns c = let a = c.args in
    omega (
      arith,
      section_sum (present a.resources) (present a.peripherals) (present a.events) (present a.activities),
      c.bit_of-r.ensures.0 ∙ ap (λ (x : ℕ). digit (present x)) c.u8_to_u32.ensures,
      c.bit_of-x.ensures.0 ∙ ap (λ (x : ℕ). digit (present x)) c.u8_to_u32-2.ensures,
      c.bit_of-e.ensures.0 ∙ ap (λ (x : ℕ). digit (present x)) c.u8_to_u32-3.ensures,
      c.bit_of-a.ensures.0 ∙ ap (λ (x : ℕ). digit (present x)) c.u8_to_u32-4.ensures,
    )
