-- A number has no bit from place s on exactly where it is below 2 ^ s. Assumes nothing.
use Rattle.std.specs.Prelude.{◌≡◌, true, ℕ, ◌*◌, ◌/◌, ◌^◌, ◌<◌, ltb, eqb}
use Rattle.std.proofs.Common.{sym, ◌∙◌, div-lt_iff_lt-mul, arith, lt-ltb, le-ltb, eq-eqb, ne_eqb}
use Rattle.std.proofs.Math.Nat.{div-eq_of_lt}
use Rattle.std.proofs.Math.Decide.{dec_lt}
use Rattle.basis.specs.Inner.Tells.{Tells}
use Rattle.basis.proofs.Laws.Tells.{tells_iff, tells_ltb}
use Rattle.wire.specs.Map.{bit}
use Rattle.plan_file.proofs.Laws.Bits.{no_high_bit, below_power}

under : (x m : ℕ) → 0 < m → x / m ≡ 0 → x < m
under x m p e = let q : x < 1 * m = (div-lt_iff_lt-mul p).0 (omega arith) in omega arith

pub quotient_zero : (x m : ℕ) → 0 < m → eqb (x / m) 0 ≡ ltb x m
quotient_zero x m p =
    elim (dec_lt x m) [
      | yes h ↦ eq-eqb (x / m) 0 (div-eq_of_lt h) ∙ sym (lt-ltb x m h)
      | no h ↦ ne_eqb (x / m) 0 (λ e. let q = under x m p e in omega arith) ∙ sym (le-ltb x m (omega arith))
    ]

-- no "final bit past the last state"
pub tells_finals : (x n : ℕ) → Tells (ltb x (2 ^ n)) ((s : ℕ) → bit s x ≡ true → s < n)
tells_finals x n = tells_iff ((λ h s e. no_high_bit x n s h e), (λ f. below_power n x f)) (tells_ltb x (2 ^ n))
