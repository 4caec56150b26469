-- A list whose elements are filled in one after the other, each from the element of another list at its place.
use mathlib.Core.Path.{◌≡◌, refl, sym, ◌∙◌, ap, subst}
use mathlib.Core.List.{List, [], ◌∷◌, map, append-nil}
use Prim.Native.Nat.{ℕ, zero, suc, ◌+◌, ◌≤◌, ◌<◌, min}
use native.Mathlib.Omega.{arith}
use Rattle.std.proofs.Math.Decide.{dec_lt}
use native.Mathlib.Nat.{le_of_suc-le-suc, not-suc-le-zero, suc_inj}
use native.Mathlib.Numerals.{add-one}
use lib.ListN.{length, get_or, set, drop_of_length-le}
use lib.Seq.{take_all}
use Rattle.held.specs.Inner.Plans.{upto}

-- w's first i, mapped, over the rest of v
abbrev pub filled : (X Y : Type 0) → (X → Y) → List X → List Y → ℕ → List Y
filled X Y f w v i = upto f i w v

turn : (X Y : Type 0) (f : X → Y) (w : List X) (v : List Y) (d : X) (i : ℕ) → i < length w → length w ≡ length v → set (filled X Y f w v i) i (f (get_or w i d)) ≡ filled X Y f w v (suc i)
turn X Y f [] v d i h e = absurd (not-suc-le-zero h)
turn X Y f (x ∷ w) [] d i h e = absurd (not-suc-le-zero (subst (λ (n : ℕ). i < n) e h))
turn X Y f (x ∷ w) (y ∷ v) d zero h e = refl
turn X Y f (x ∷ w) (y ∷ v) d (suc i) h e = ap (λ (l : List Y). f x ∷ l) (turn X Y f w v d i (le_of_suc-le-suc h) (suc_inj e))

pub fill_turn : (X Y : Type 0) (f : X → Y) (w : List X) (v u : List Y) (d : X) (i : ℕ) → i < length w → length w ≡ length v → u ≡ filled X Y f w v i → set u i (f (get_or w i d)) ≡ filled X Y f w v (i + 1)
fill_turn X Y f w v u d i h e p = ap (λ (l : List Y). set l i (f (get_or w i d))) p ∙ turn X Y f w v d i h e ∙ rw add-one

pub fill_end : (X Y : Type 0) (f : X → Y) (w : List X) (v : List Y) (i : ℕ) → length w ≤ i → length w ≡ length v → filled X Y f w v i ≡ map f w
fill_end X Y f w v i h e = rw (take_all i w h, drop_of_length-le v (subst (λ (n : ℕ). n ≤ i) e h), append-nil (map f w))

-- behind the end nothing is left to fill in
pub fill_past : (X Y : Type 0) (f : X → Y) (w : List X) (v : List Y) (i n : ℕ) → length w ≤ i → length w ≤ n → length w ≡ length v → filled X Y f w v i ≡ filled X Y f w v n
fill_past X Y f w v i n h k e = fill_end X Y f w v i h e ∙ sym (fill_end X Y f w v n k e)

-- so the first n are filled in where the loop ends at the length at the latest
pub fill_all : (X Y : Type 0) (f : X → Y) (w : List X) (v : List Y) (i n : ℕ) → i ≡ min n (length w) → length w ≡ length v → filled X Y f w v i ≡ filled X Y f w v n
fill_all X Y f w v i n m e =
    elim (dec_lt n (length w)) [
      | yes h ↦ ap (filled X Y f w v) (omega arith)
      | no h ↦ fill_past X Y f w v i n (omega arith) (omega arith) e
    ]

-- what is not reached yet is as it was
unreached : (X : Type 0) (f : X → X) (w v : List X) (d : X) (i : ℕ) → i < length w → length w ≡ length v → get_or (filled X X f w v i) i d ≡ get_or v i d
unreached X f [] v d i h e = absurd (not-suc-le-zero h)
unreached X f (x ∷ w) [] d i h e = absurd (not-suc-le-zero (subst (λ (n : ℕ). i < n) e h))
unreached X f (x ∷ w) (y ∷ v) d zero h e = refl
unreached X f (x ∷ w) (y ∷ v) d (suc i) h e = unreached X f w v d i (le_of_suc-le-suc h) (suc_inj e)

-- a list that is filled in from itself
pub fill_own : (X : Type 0) (f : X → X) (w u : List X) (d : X) (i : ℕ) → i < length w → u ≡ filled X X f w w i → set u i (f (get_or u i d)) ≡ filled X X f w w (i + 1)
fill_own X f w u d i h p =
    ap (λ (x : X). set u i (f x)) (ap (λ (l : List X). get_or l i d) p ∙ unreached X f w w d i h refl) ∙ fill_turn X X f w w u d i h refl p
