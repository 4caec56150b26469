-- Tests of the numbers below a bound, and flags in a list.
use Rattle.std.specs.Prelude.{Bool, true, false, ◌&&◌, ◌||◌, List, [], ◌∷◌, ℕ, zero, suc, get_or}

-- every number below n passes
unfoldable pub every : ℕ → (ℕ → Bool) → Bool
every zero f = true
every (suc n) f = f n && every n f

-- some number below n passes
unfoldable pub some : ℕ → (ℕ → Bool) → Bool
some zero f = false
some (suc n) f = f n || some n f

-- flag n; false past the end
abbrev pub flag : List Bool → ℕ → Bool
flag xs n = get_or xs n false

-- how many flags do not stand
unfoldable pub falses : List Bool → ℕ
falses [] = 0
falses (true ∷ ds) = falses ds
falses (false ∷ ds) = suc (falses ds)
