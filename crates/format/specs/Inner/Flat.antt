-- The bytes of a list, one element after the other.
use Rattle.std.specs.Prelude.{List, [], ◌∷◌, ◌++◌, ℕ}

abbrev pub flat : {A : Type 0} → (A → List ℕ) → List A → List ℕ
flat enc [] = []
flat enc (x ∷ xs) = enc x ++ flat enc xs
