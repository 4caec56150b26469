-- The library's numbers in bytes, lowest byte first, are those of `Number`.
use Rattle.std.specs.Prelude.{◌≡◌, refl, List, ◌∷◌, ℕ, zero, suc, ◌+◌, ◌*◌, ◌/◌, ◌%◌, ◌^◌, ◌≤◌, ◌<◌, get_or, take, drop}
use Rattle.std.specs.Int.{from_le_bytes, to_le_bytes, w64, byte_at, bytes_low_first}
use Rattle.std.proofs.Common.{sym, ◌∙◌, ap, arith, zero-add, add-zero, add-one}
use Rattle.std.proofs.lemmas.List.{get_or-take, get_or-drop}
use Rattle.std.proofs.Math.Nat.{div-div-eq-div-mul, div-one, pow-suc}
use Rattle.wire.specs.Number.{little, bytes_of, number_bytes}

-- the number that eight bytes make
pub made_eight : (b : List ℕ) (at : ℕ) → from_le_bytes w64 (take 8 (drop at b)) ≡ little 8 b at
made_eight b at =
    let t : (i j : ℕ) → i < 8 → at + i ≡ j → get_or (take 8 (drop at b)) i 0 ≡ get_or b j 0
    = λ i j h e. get_or-take 8 (drop at b) i 0 h ∙ get_or-drop at b i 0 ∙ ap (λ k. get_or b k 0) e in
    omega (
      arith,
      t 0 at (omega arith) (omega arith),
      t 1 (at + 1) (omega arith) (omega arith),
      t 2 (at + 1 + 1) (omega arith) (omega arith),
      t 3 (at + 1 + 1 + 1) (omega arith) (omega arith),
      t 4 (at + 1 + 1 + 1 + 1) (omega arith) (omega arith),
      t 5 (at + 1 + 1 + 1 + 1 + 1) (omega arith) (omega arith),
      t 6 (at + 1 + 1 + 1 + 1 + 1 + 1) (omega arith) (omega arith),
      t 7 (at + 1 + 1 + 1 + 1 + 1 + 1 + 1) (omega arith) (omega arith),
    )

byte_low : (x i k j : ℕ) → j < k → get_or (bytes_low_first i k x) j 0 ≡ byte_at (i + j) x
byte_low x i zero j h = omega arith
byte_low x i (suc k) zero h = rw add-zero refl
byte_low x i (suc k) (suc j) h = let e : suc i + j ≡ i + suc j = omega arith in byte_low x (suc i) k j (omega arith) ∙ rw e refl

byte_is : (x i : ℕ) → byte_at i x % 256 ≡ x / 256 ^ i % 256
byte_is x zero = omega arith
byte_is x (suc i) = omega arith

power : (i : ℕ) → 256 ^ i * 256 ≡ 256 ^ (i + 1)
power i = rw (add-one i) (sym (pow-suc 256 i))

low_bytes : (x w i : ℕ) → i + w ≤ 8 → number_bytes (to_le_bytes w64 x) i w ≡ bytes_of w (x / 256 ^ i)
low_bytes x zero i h = refl
low_bytes x (suc w) i h =
    let e : get_or (to_le_bytes w64 x) i 0 % 256 ≡ x / 256 ^ i % 256 = ap (λ n. n % 256) (byte_low x 0 8 i (omega arith)) ∙ rw zero-add (byte_is x i) in
    let s : x / 256 ^ i / 256 ≡ x / 256 ^ (i + 1) = div-div-eq-div-mul x (256 ^ i) 256 ∙ ap (λ n. x / n) (power i) in
    rw (e, s) (ap (λ (l : List ℕ). x / 256 ^ i % 256 ∷ l) (low_bytes x w (i + 1) (omega arith)))

-- the first w of them are the w bytes
pub first_bytes : (x w : ℕ) → w ≤ 8 → number_bytes (to_le_bytes w64 x) 0 w ≡ bytes_of w x
first_bytes x w h = low_bytes x w 0 (omega arith) ∙ ap (bytes_of w) (div-one x)
