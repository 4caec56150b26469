-- Bits of words: what `|`, `&` and a power of two do to a bit, and when two words have the same bits.
-- Assumes nothing.
use Rattle.std.specs.Prelude.{◌≡◌, refl, ◌⊎◌, ◌↔◌, List, [], ◌∷◌, ℕ, zero, suc, ◌+◌, ◌-◌, ◌*◌, ◌/◌, ◌%◌, ◌^◌, ◌<◌, ◌≤◌, get_or, replicate}
use Rattle.std.proofs.Common.{sym, ap, ◌∙◌, inl, inr, ⊎_elim, one-mul, mod-eq_of_lt, pow-suc, eq-or-lt_of_le, arith, pow-add}
use Rattle.std.proofs.Math.Nat.{zero-div, mul-mod_left, div-eq_of_lt}
use Rattle.std.proofs.Math.Decide.{dec_lt}
use Rattle.std.specs.Int.Bits.{bit_or, bit_and}
use Rattle.std.proofs.lemmas.Nat.{or_shr, or_mod, and_shr, and_mod, shl-shr}
use Rattle.std.proofs.Math.Pow.{pow-lt}
use Rattle.basis.specs.Lists.{Among}
use Rattle.basis.specs.Inner.Tells.{Tells}
use Rattle.basis.proofs.Laws.Tells.{tells_eqb}
use Rattle.activity.specs.Tests.{bit, word_of}
use Rattle.activity.specs.Inner.Bits.{Bit}

pub tells_bit : (w j : ℕ) → Tells (bit w j) (Bit w j)
tells_bit w j = tells_eqb (w / 2 ^ j % 2) 1

or_bit : (w v j : ℕ) → bit_or w v / 2 ^ j % 2 ≡ bit_or (w / 2 ^ j % 2) (v / 2 ^ j % 2)
or_bit w v j = ap (λ (x : ℕ). x % 2) (or_shr w v j) ∙ or_mod (w / 2 ^ j) (v / 2 ^ j) 1

or_low : (x y : ℕ) → x < 2 → y < 2 → bit_or x y ≡ 1 ↔ ((x ≡ 1) ⊎ (y ≡ 1))
or_low zero y hx hy = (inr, ⊎_elim (λ e. omega arith) (λ e. e))
or_low (suc zero) zero hx hy = (λ e. inl refl, λ e. refl)
or_low (suc zero) (suc zero) hx hy = (λ e. inl refl, λ e. refl)
or_low (suc zero) (suc (suc y)) hx hy = absurd (omega arith)
or_low (suc (suc x)) y hx hy = absurd (omega arith)

pub or_iff : (w v j : ℕ) → Bit (bit_or w v) j ↔ (Bit w j ⊎ Bit v j)
or_iff w v j =
    let l = or_low (w / 2 ^ j % 2) (v / 2 ^ j % 2) (omega arith) (omega arith) in
    (λ e. l.0 (sym (or_bit w v j) ∙ e), λ s. or_bit w v j ∙ l.1 s)

and_bit : (w v j : ℕ) → bit_and w v / 2 ^ j % 2 ≡ bit_and (w / 2 ^ j % 2) (v / 2 ^ j % 2)
and_bit w v j = ap (λ (x : ℕ). x % 2) (and_shr w v j) ∙ and_mod (w / 2 ^ j) (v / 2 ^ j) 1

and_low : (x y : ℕ) → x < 2 → y < 2 → bit_and x y ≡ 1 ↔ ((x ≡ 1) × (y ≡ 1))
and_low zero y hx hy = (λ e. absurd (omega arith), λ s. absurd (omega (arith, s.0)))
and_low (suc zero) zero hx hy = (λ e. absurd (omega arith), λ s. absurd (omega (arith, s.1)))
and_low (suc zero) (suc zero) hx hy = (λ e. (refl, refl), λ e. refl)
and_low (suc zero) (suc (suc y)) hx hy = absurd (omega arith)
and_low (suc (suc x)) y hx hy = absurd (omega arith)

pub and_iff : (w v j : ℕ) → Bit (bit_and w v) j ↔ (Bit w j × Bit v j)
and_iff w v j =
    let l = and_low (w / 2 ^ j % 2) (v / 2 ^ j % 2) (omega arith) (omega arith) in
    (λ e. l.0 (sym (and_bit w v j) ∙ e), λ s. and_bit w v j ∙ l.1 s)

pub lt-or-ge : (n m : ℕ) → (n < m) ⊎ (m ≤ n)
lt-or-ge n m = elim (dec_lt n m) [ yes h ↦ inl h | no h ↦ inr (omega arith) ]

-- 2 ^ p has bit p and no other
above : (d j : ℕ) → 2 ^ (suc d + j) / 2 ^ j % 2 ≡ 0
above d j =
    ap (λ (x : ℕ). x / 2 ^ j % 2) (pow-add 2 (suc d) j) ∙ ap (λ (x : ℕ). x % 2) (shl-shr (2 ^ suc d) j ∙ pow-suc 2 d)
    ∙ mul-mod_left (2 ^ d) 2

pub pow_iff : (p j : ℕ) → Bit (2 ^ p) j ↔ (j ≡ p)
pow_iff p j = (λ e. ⊎_elim (less e) (λ ge. ⊎_elim (λ q. sym q) (more e) (eq-or-lt_of_le ge)) (lt-or-ge j p), same)
  where
    less : Bit (2 ^ p) j → j < p → j ≡ p
    less e lt =
        let q : suc (p - suc j) + j ≡ p = omega arith in
        let z = above (p - suc j) j in
        let f : 2 ^ p / 2 ^ j % 2 ≡ 0 = rw q at z in
        omega arith

    more : Bit (2 ^ p) j → p < j → j ≡ p
    more e lt = let f : 2 ^ p / 2 ^ j % 2 ≡ 0 = ap (λ (x : ℕ). x % 2) (div-eq_of_lt (pow-lt lt)) in omega arith

    same : j ≡ p → Bit (2 ^ p) j
    same q = rw q (ap (λ (x : ℕ). x / 2 ^ p % 2) (sym (one-mul (2 ^ p))) ∙ ap (λ (x : ℕ). x % 2) (shl-shr 1 p))

-- the machine's 1 << p
pub shl_iff : (p j : ℕ) → p < 64 → Bit (1 * 2 ^ p % 2 ^ 64) j ↔ (j ≡ p)
shl_iff p j lt =
    let e : 1 * 2 ^ p % 2 ^ 64 ≡ 2 ^ p = ap (λ (x : ℕ). x % 2 ^ 64) (one-mul (2 ^ p)) ∙ mod-eq_of_lt (pow-lt lt) in
    rw e (pow_iff p j)

-- 0 has no bit
pub no_bit : (j : ℕ) → Bit 0 j → ⊥
no_bit j e = omega (arith, zero-div (2 ^ j))

-- an array of zeros has 0 everywhere
pub zeros : (n j : ℕ) → ◌≡◌ {A = ℕ} (get_or (replicate n 0) j 0) 0
zeros zero j = refl
zeros (suc n) zero = refl
zeros (suc n) (suc j) = zeros n j

-- the word of a list has the bits of the list's numbers
pub word_iff : (ms : List ℕ) (j : ℕ) → Bit (word_of ms) j ↔ Among j ms
unfolding word_of
word_iff [] j = (no_bit j, λ h. absurd h)
word_iff (m ∷ ms) j =
    let i = or_iff (2 ^ m) (word_of ms) j in (
      λ e. ⊎_elim (λ b. inl ((pow_iff m j).0 b)) (λ b. inr ((word_iff ms j).0 b)) (i.0 e),
      λ s. i.1 (⊎_elim (λ q. inl ((pow_iff m j).1 q)) (λ h. inr ((word_iff ms j).1 h)) s),
    )
