-- A number in a list, and a test of all numbers below n.
use Rattle.std.specs.Prelude.{Bool, true, ◌&&◌, List, ℕ, zero, suc, get_or}

abbrev pub at : List ℕ → ℕ → ℕ
at xs n = get_or xs n 0

-- the test holds of all numbers below n
unfoldable pub all : ℕ → (ℕ → Bool) → Bool
all zero f = true
all (suc n) f = all n f && f n
