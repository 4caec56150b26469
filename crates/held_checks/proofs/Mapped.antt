-- What stands at a place of a mapped list, whatever would be read past the two lists.
use mathlib.Core.Path.{◌≡◌, refl}
use mathlib.Core.List.{List, [], ◌∷◌, map}
use Prim.Native.Nat.{ℕ, zero, suc, ◌<◌}
use native.Mathlib.Nat.{le_of_suc-le-suc, not-suc-le-zero}
use lib.ListN.{length, get_or}

pub mapped_at : (X Y : Type 0) (f : X → Y) (l : List X) (e : Y) (d : X) (i : ℕ) → i < length l → get_or (map f l) i e ≡ f (get_or l i d)
mapped_at X Y f [] e d i h = absurd (not-suc-le-zero h)
mapped_at X Y f (x ∷ l) e d zero h = refl
mapped_at X Y f (x ∷ l) e d (suc i) h = mapped_at X Y f l e d i (le_of_suc-le-suc h)
