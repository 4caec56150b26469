-- The laws of maps, once for every number of bits: a map's bits are those it was made of, and a map is made of its bits.
use Rattle.std.specs.Prelude.{◌≡◌, refl, Bool, true, false, List, [], ◌∷◌, ℕ, zero, suc, ◌+◌, ◌/◌, ◌%◌, ◌^◌, ◌<◌, length, get_or, eqb}
use Rattle.std.proofs.Common.{sym, ◌∙◌, ap, ap₂, div-one, add-one, arith, eqb-true, eq-eqb, ne_eqb}
use Rattle.std.proofs.Math.Nat.{pow-succ', div-div-eq-div-mul}
use Rattle.std.proofs.lemmas.Bool.{eqb-false}
use Rattle.wire.specs.Map.{bit, map_of, bits_of}

pub bit_zero : (m : ℕ) → bit 0 m ≡ eqb (m % 2) 1
bit_zero m = rw (div-one m)

pub bit_suc : (i m : ℕ) → bit (suc i) m ≡ bit i (m / 2)
bit_suc i m = rw (pow-succ' 2 i, ← div-div-eq-div-mul m 2 (2 ^ i))

pub map_below : (bits : List Bool) → map_of bits < 2 ^ length bits
map_below [] = omega arith
map_below (true ∷ bits) = rw (pow-succ' 2 (length bits)) (omega (arith, map_below bits))
map_below (false ∷ bits) = rw (pow-succ' 2 (length bits)) (omega (arith, map_below bits))

-- the bits of a map that was written: "read what was written"
pub bit_map : (bits : List Bool) (i : ℕ) → bit i (map_of bits) ≡ get_or bits i false
bit_map [] zero = refl
bit_map [] (suc i) = bit_suc i 0 ∙ bit_map [] i
bit_map (true ∷ bits) zero = bit_zero (map_of (true ∷ bits)) ∙ eq-eqb (map_of (true ∷ bits) % 2) 1 (omega arith)
bit_map (false ∷ bits) zero = bit_zero (map_of (false ∷ bits)) ∙ ne_eqb (map_of (false ∷ bits) % 2) 1 (λ e. omega arith)
bit_map (true ∷ bits) (suc i) =
    let e : map_of (true ∷ bits) / 2 ≡ map_of bits = omega arith in bit_suc i (map_of (true ∷ bits)) ∙ rw e (bit_map bits i)
bit_map (false ∷ bits) (suc i) =
    let e : map_of (false ∷ bits) / 2 ≡ map_of bits = omega arith in bit_suc i (map_of (false ∷ bits)) ∙ rw e (bit_map bits i)

bits_half : (k i m : ℕ) → bits_of (i + 1) k m ≡ bits_of i k (m / 2)
bits_half zero i m = refl
bits_half (suc k) i m = ap₂ (λ (t : Bool) (l : List Bool). t ∷ l) (rw (add-one i) (bit_suc i m)) (bits_half k (i + 1) m)

cons-map : (m : ℕ) (t : Bool) (bits : List Bool) → eqb (m % 2) 1 ≡ t → m / 2 ≡ map_of bits → m ≡ map_of (t ∷ bits)
cons-map m true bits e h = omega (arith, eqb-true (m % 2) 1 e)
cons-map m false bits e h = omega (arith, eqb-false (m % 2) 1 e)

-- the map of bits that were read: "write what was read"
pub map_bits : (k m : ℕ) → m < 2 ^ k → m ≡ map_of (bits_of 0 k m)
map_bits zero m h = omega arith
map_bits (suc k) m h =
    cons-map m (bit 0 m) (bits_of 1 k m) (sym (bit_zero m))
    (map_bits k (m / 2) (omega arith) ∙ ap map_of (sym (bits_half k 0 m)))
