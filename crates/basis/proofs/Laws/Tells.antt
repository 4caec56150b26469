-- What is known of a statement from the test that tells it, and tests put together from tests.
use Rattle.std.specs.Prelude.{◌≡◌, refl, Bool, true, false, cond, not, ◌&&◌, ◌||◌, ◌⊎◌, ◌↔◌, ℕ, ◌≤◌, ◌<◌, eqb, ltb, leb}
use Rattle.std.proofs.Common.{subst, inl, inr, ⊎_elim, arith, eqb-true, ltb-true, ltb-false, leb-true, leb-false}
use Rattle.std.proofs.lemmas.Bool.{eqb-false, not-true, not-false}
use Rattle.basis.specs.Inner.Tells.{Tells, holds, fails}

-- what a test tells, from what it means to be true and to be false
pub tells : (b : Bool) {P : Type 0} → (b ≡ true → P) → (b ≡ false → P → ⊥) → Tells b P
tells true t f = holds (t refl)
tells false t f = fails (f refl)

pub told : {P : Type 0} → Tells true P → P
told (holds p) = p

pub denied : {P : Type 0} → Tells false P → P → ⊥
denied (fails n) = n

pub told_true : {b : Bool} {P : Type 0} → Tells b P → b ≡ true → P
told_true {P = P} t e = told (subst (λ (x : Bool). Tells x P) e t)

pub told_false : {b : Bool} {P : Type 0} → Tells b P → b ≡ false → P → ⊥
told_false {P = P} t e = denied (subst (λ (x : Bool). Tells x P) e t)

pub is_true : {b : Bool} {P : Type 0} → Tells b P → P → b ≡ true
is_true (holds p) q = refl
is_true (fails n) q = absurd (n q)

pub is_false : {b : Bool} {P : Type 0} → Tells b P → (P → ⊥) → b ≡ false
is_false (holds p) n = absurd (n p)
is_false (fails n) m = refl

-- what the negation of a test says
pub granted : {b : Bool} {P : Type 0} → Tells b P → not b ≡ false → P
granted {b} t e = told_true t (not-false b e)

pub refuted : {b : Bool} {P : Type 0} → Tells b P → not b ≡ true → P → ⊥
refuted {b} t e = told_false t (not-true b e)

-- two tests of one thing are equal
pub tells_same : {b c : Bool} {P : Type 0} → Tells b P → Tells c P → b ≡ c
tells_same (holds p) (holds q) = refl
tells_same (holds p) (fails q) = absurd (q p)
tells_same (fails p) (holds q) = absurd (p q)
tells_same (fails p) (fails q) = refl

-- by cases of what is told
pub by_tells : {A : Type 0} {b : Bool} {P : Type 0} (Q : A → Type 0) (x y : A) → Tells b P → (P → Q x) → ((P → ⊥) → Q y) → Q (cond b x y)
by_tells Q x y (holds p) f g = f p
by_tells Q x y (fails n) f g = g n

-- a test of P tests what is equivalent to P
pub tells_iff : {b : Bool} {P Q : Type 0} → P ↔ Q → Tells b P → Tells b Q
tells_iff e (holds p) = holds (e.0 p)
tells_iff e (fails n) = fails (λ q. n (e.1 q))

pub tells_not : {b : Bool} {P : Type 0} → Tells b P → Tells (not b) (P → ⊥)
tells_not (holds p) = fails (λ f. f p)
tells_not (fails n) = holds n

pub tells_and : {b c : Bool} {P Q : Type 0} → Tells b P → Tells c Q → Tells (b && c) (P × Q)
tells_and (holds p) (holds q) = holds (p, q)
tells_and (holds p) (fails q) = fails (λ x. q x.1)
tells_and (fails p) q = fails (λ x. p x.0)

-- the second test counts only where the first one holds
pub tells_then : {b c : Bool} {P Q : Type 0} → Tells b P → (P → Tells c Q) → Tells (b && c) (P × Q)
tells_then (holds p) q = tells_and (holds p) (q p)
tells_then (fails n) q = fails (λ x. n x.0)

pub tells_or : {b c : Bool} {P Q : Type 0} → Tells b P → Tells c Q → Tells (b || c) (P ⊎ Q)
tells_or (holds p) q = holds (inl p)
tells_or (fails p) (holds q) = holds (inr q)
tells_or (fails p) (fails q) = fails (⊎_elim p q)

pub tells_eqb : (x y : ℕ) → Tells (eqb x y) (x ≡ y)
tells_eqb x y = tells (eqb x y) (eqb-true x y) (eqb-false x y)

pub tells_leb : (x y : ℕ) → Tells (leb x y) (x ≤ y)
tells_leb x y = tells (leb x y) (leb-true x y) (λ e l. omega (arith, leb-false x y e))

pub tells_ltb : (x y : ℕ) → Tells (ltb x y) (x < y)
tells_ltb x y = tells (ltb x y) (ltb-true x y) (λ e l. omega (arith, ltb-false x y e))
