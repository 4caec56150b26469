-- How many digits a number has, at most.
use Rattle.std.specs.Prelude.{◌≡◌, [], ◌∷◌, ◌++◌, ℕ, zero, suc, ◌+◌, ◌/◌, ◌%◌, ◌^◌, ◌≤◌, ◌<◌, length}
use Rattle.std.proofs.Common.{arith, length-append, le-ltb, lt-ltb}
use Rattle.std.proofs.Math.Decide.{dec_lt}
use Rattle.timetable_text.specs.Text.{digits, decimal}

pub digits_small : (k n : ℕ) → n < 10 → digits (suc k) n ≡ (48 + n) ∷ []
unfolding digits
digits_small k n h = rw (lt-ltb n 10 h)

pub digits_more : (k n : ℕ) → 10 ≤ n → digits (suc k) n ≡ digits k (n / 10) ++ ((48 + n % 10) ∷ [])
unfolding digits
digits_more k n h = rw (le-ltb n 10 h)

pub digits_length : (k n : ℕ) → length (digits k n) ≤ k
unfolding digits
digits_length zero n = omega arith
digits_length (suc k) n =
    elim (dec_lt n 10) [
      | yes h ↦ rw (lt-ltb n 10 h) (omega arith)
      | no h ↦ rw (le-ltb n 10 (omega arith), length-append) (omega (arith, digits_length k (n / 10)))
    ]

pub decimal_length : (n : ℕ) → length (decimal n) ≤ 20
decimal_length n = digits_length 20 n

-- a number below 10^w has at most w digits
pub digits_within : (w k n : ℕ) → n < 10 ^ suc w → length (digits k n) ≤ suc w
unfolding digits
digits_within w zero n h = omega arith
digits_within zero (suc k) n h = rw (lt-ltb n 10 (omega arith)) (omega arith)
digits_within (suc w) (suc k) n h =
    elim (dec_lt n 10) [
      | yes s ↦ rw (lt-ltb n 10 s) (omega arith)
      | no s ↦
          let q : n / 10 < 10 ^ suc w = omega arith in
          rw (le-ltb n 10 (omega arith), length-append) (omega (arith, digits_within w k (n / 10) q))
    ]
