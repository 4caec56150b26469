-- Two tests at once, and a choice by a test.
use Rattle.std.specs.Prelude.{◌≡◌, refl, Bool, true, false, cond, ◌&&◌, ◌||◌}
use Rattle.std.proofs.Common.{sym, true≢false}

pub clash : {A : Type 0} → true ≡ false → A
clash e = absurd (true≢false e)

pub and_left : (a b : Bool) → a && b ≡ true → a ≡ true
and_left true b e = refl
and_left false b e = e

pub and_right : (a b : Bool) → a && b ≡ true → b ≡ true
and_right true b e = e
and_right false b e = clash (sym e)

pub and_both : (a b : Bool) → a ≡ true → b ≡ true → a && b ≡ true
and_both a b e f = rw (e, f)

pub and-false : (a b : Bool) → a && b ≡ false → a ≡ true → b ≡ false
and-false a b e f = rw f at e

pub or-false : (a b : Bool) → a || b ≡ false → (a ≡ false) × (b ≡ false)
or-false true b e = clash e
or-false false b e = (refl, e)

-- what holds of each side of a choice, where the test lets it be chosen, holds of the choice
pub by_test : {A : Type 0} (P : A → Type 0) (b : Bool) (x y : A) → (b ≡ true → P x) → (b ≡ false → P y) → P (cond b x y)
by_test P true x y f g = f refl
by_test P false x y f g = g refl

-- and of two choices by one test
pub by_same : {A B : Type 0} (P : A → B → Type 0) (b : Bool) (x y : A) (z u : B) → (b ≡ true → P x z) → (b ≡ false → P y u) → P (cond b x y) (cond b z u)
by_same P true x y z u f g = f refl
by_same P false x y z u f g = g refl

pub by_cond : {A : Type 0} (P : A → Type 0) (b : Bool) (x y : A) → P x → P y → P (cond b x y)
by_cond P b x y p q = by_test P b x y (λ e. p) (λ e. q)
