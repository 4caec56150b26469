-- "Numbers are unsigned, little-endian": numbers of any width in bytes, and fields with limits.
use Rattle.std.specs.Prelude.{Bool, cond, not, List, [], ◌∷◌, ℕ, zero, suc, ◌+◌, ◌*◌, ◌/◌, ◌%◌, length, get_or, ltb, leb, eqb}

-- the number in the w bytes at `at`
abbrev pub little : ℕ → List ℕ → ℕ → ℕ
little zero b at = 0
little (suc w) b at = get_or b at 0 + 256 * little w b (at + 1)

-- x as w bytes
abbrev pub bytes_of : ℕ → ℕ → List ℕ
bytes_of zero x = []
bytes_of (suc w) x = x % 256 ∷ bytes_of w (x / 256)

-- the k numbers of a list from place i on, one byte each
abbrev pub number_bytes : List ℕ → ℕ → ℕ → List ℕ
number_bytes xs i zero = []
number_bytes xs i (suc k) = get_or xs i 0 % 256 ∷ number_bytes xs (i + 1) k

-- the w bytes at `at` as a number, unless the bytes end inside them
unfoldable pub field_at : {A : Type 0} → (ℕ → A) → A → ℕ → List ℕ → ℕ → A
field_at value ends w b at = cond (leb (at + w) (length b)) (value (little w b at)) ends

-- A field of w bytes whose number is in low .. below - 1: its number and the offset past it, or a fault and its place;
-- `ends` where the bytes end inside the field, `wrong` where the number is outside its limits.
unfoldable pub number : {A F : Type 0} → (ℕ → ℕ → A) → (F → ℕ → A) → F → ℕ → ℕ → ℕ → F → List ℕ → ℕ → A
number value refused ends w low below wrong b at =
    cond (leb (at + w) (length b))
    (cond (leb low (little w b at))
    (cond (ltb (little w b at) below) (value (little w b at) (at + w)) (refused wrong at))
    (refused wrong at))
    (refused ends at)

-- Such a field that is present iff its bit stands; an absent number is 0.
unfoldable pub optional : {A F : Type 0} → (ℕ → ℕ → A) → (F → ℕ → A) → F → ℕ → ℕ → ℕ → F → Bool → List ℕ → ℕ → A
optional value refused ends w low below wrong stands b at = cond stands (number value refused ends w low below wrong b at) (value 0 at)

-- the bit of a number that is absent where it is 0
abbrev pub present : ℕ → Bool
present x = not (eqb x 0)

-- the bytes of a number that is absent where it is 0
unfoldable pub optional_bytes : ℕ → ℕ → List ℕ
optional_bytes w x = cond (present x) (bytes_of w x) []
