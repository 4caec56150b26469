-- A test that is computed at each number below n holds of each of them.
use Prim.Native.Nat.{ℕ, zero, suc, ◌<◌}
use mathlib.Core.Bool.{Bool, true, false}
use mathlib.Core.Path.{◌≡◌, refl, subst}
use mathlib.Core.Logic.{◌⊎◌, inl, inr}
use native.Mathlib.Nat.{not-suc-le-zero}
use native.Mathlib.Omega.{arith}
use native.Mathlib.Decide.{dec_lt}

abbrev pub both : Bool → Bool → Bool
both true b = b
both false b = false

both_left : (a b : Bool) → both a b ≡ true → a ≡ true
both_left true b t = refl
both_left false b t = t

both_right : (a b : Bool) → both a b ≡ true → b ≡ true
both_right true b t = t
both_right false b t = cc

abbrev pub either : Bool → Bool → Bool
either true b = true
either false b = b

pub or : {A B : Type 0} (a b : Bool) → (a ≡ true → A) → (b ≡ true → B) → either a b ≡ true → A ⊎ B
or true b f g t = inl (f refl)
or false b f g t = inr (g t)

abbrev pub all : (ℕ → Bool) → ℕ → Bool
all f zero = true
all f (suc n) = both (f n) (all f n)

pub all-at : (f : ℕ → Bool) (n : ℕ) → all f n ≡ true → (k : ℕ) → k < n → f k ≡ true
all-at f zero t k h = absurd (not-suc-le-zero h)
all-at f (suc n) t k h =
    elim (dec_lt k n) [
      | yes l ↦ all-at f n (both_right (f n) (all f n) t) k l
      | no g ↦ subst (λ (m : ℕ). f m ≡ true) (omega arith) (both_left (f n) (all f n) t)
    ]
