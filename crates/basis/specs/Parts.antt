-- The used part of an array: `part d l i k` are the k elements from place i on, d past the end.
use Rattle.std.specs.Prelude.{List, [], ◌∷◌, ℕ, zero, suc, ◌+◌, get_or}

abbrev pub part : {A : Type 0} → A → List A → ℕ → ℕ → List A
part d l i zero = []
part d l i (suc k) = get_or l i d ∷ part d l (i + 1) k
