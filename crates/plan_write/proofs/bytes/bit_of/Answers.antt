-- A bit stands iff the number is not 0.
use Rattle.std.specs.Prelude.{◌≡◌, ◌≤◌, refl, Bool, true, false}
use Rattle.std.proofs.Common.{◌∙◌, arith}
use Rattle.std.specs.Int.{from_bool}
use Rattle.wire.specs.Number.{present}
use Rattle.plan_write.specs.Inner.Bits.{digit}
use Rattle.plan_write.proofs.bytes.bit_of.Goals as goal

same : (b : Bool) → (from_bool b ≡ digit b) × (digit b ≤ 1)
same true = (refl, omega arith)
same false = (refl, omega arith)

pub returns : goal.returns
returns c = let s = same (present c.args.x) in (c.from.ensures ∙ s.0, omega (arith, s.0, s.1, c.from.ensures))
