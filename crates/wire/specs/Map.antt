-- Maps of optional fields: "bit 0 is lowest"; "a map byte, then only the fields whose bits stand".
use Rattle.std.specs.Prelude.{Bool, true, false, List, [], ◌∷◌, ℕ, zero, suc, ◌+◌, ◌*◌, ◌/◌, ◌%◌, ◌^◌, eqb}

-- bit i of a map
abbrev pub bit : ℕ → ℕ → Bool
bit i m = eqb (m / 2 ^ i % 2) 1

-- the map whose bits are given, bit 0 first: the sum of the bits that stand
abbrev pub map_of : List Bool → ℕ
map_of [] = 0
map_of (true ∷ bits) = 1 + 2 * map_of bits
map_of (false ∷ bits) = 2 * map_of bits

-- bits i to i + k - 1 of a map
abbrev pub bits_of : ℕ → ℕ → ℕ → List Bool
bits_of i zero m = []
bits_of i (suc k) m = bit i m ∷ bits_of (i + 1) k m
