-- No bit at or past k stands iff the number is below 2 ^ k.
use Rattle.std.specs.Prelude.{◌≡◌, true, ℕ, zero, suc, ◌/◌, ◌%◌, ◌^◌, ◌≤◌, ◌<◌}
use Rattle.std.proofs.Common.{◌∙◌, lt_of_lt_of_le, arith, eqb-true, eq-eqb}
use Rattle.std.proofs.Math.Nat.{pow-succ', div-eq_of_lt, pow-le-pow_right}
use Rattle.std.proofs.Math.Decide.{dec_lt, dec_le}
use Rattle.wire.specs.Map.{bit}
use Rattle.wire.proofs.Laws.Maps.{bit_zero, bit_suc}

pub no_high_bit : (x k s : ℕ) → x < 2 ^ k → bit s x ≡ true → s < k
no_high_bit x k s h e =
    elim (dec_lt s k) [
      | yes l ↦ l
      | no l ↦
          let z : x / 2 ^ s ≡ 0 = div-eq_of_lt (lt_of_lt_of_le h (pow-le-pow_right (omega arith) (omega arith))) in
          let y : (x / 2 ^ s) % 2 ≡ 1 = eqb-true (x / 2 ^ s % 2) 1 e in
          absurd (omega (arith, rw z at y))
    ]

no_bit : (m x : ℕ) → x ≤ m → ((s : ℕ) → bit s x ≡ true → ⊥) → x ≡ 0
no_bit zero x h none = omega arith
no_bit (suc m) x h none =
    let low : x % 2 ≡ 0 = even (λ e. none 0 (bit_zero x ∙ eq-eqb (x % 2) 1 e)) in
    let half : x / 2 ≡ 0 = no_bit m (x / 2) (omega arith) (λ s e. none (suc s) (bit_suc s x ∙ e)) in
    omega arith
  where
    even : (x % 2 ≡ 1 → ⊥) → x % 2 ≡ 0
    even f = elim (dec_le (x % 2) 0) [ yes z ↦ omega arith | no z ↦ absurd (f (omega arith)) ]

pub below_power : (k x : ℕ) → ((s : ℕ) → bit s x ≡ true → s < k) → x < 2 ^ k
below_power zero x h = let z = no_bit x x (omega arith) (λ s e. no_less (h s e)) in omega arith
  where
    no_less : {s : ℕ} → s < 0 → ⊥
    no_less l = omega arith
below_power (suc k) x h =
    let z = below_power k (x / 2) (λ s e. less (h (suc s) (bit_suc s x ∙ e))) in
    rw (pow-succ' 2 k) (omega arith)
  where
    less : {s : ℕ} → suc s < suc k → s < k
    less l = omega arith
