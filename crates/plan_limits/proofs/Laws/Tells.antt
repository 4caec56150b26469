-- What a test of two numbers tells, a test of the first `count` numbers of an array, and a test of the used places of an
-- array with room for w in each group: place n of group a stands at w * a + n. Assumes nothing.
use Rattle.std.specs.Prelude.{◌≡◌, ◌⊎◌, Bool, ◌||◌, List, ℕ, ◌+◌, ◌*◌, ◌/◌, ◌%◌, ◌<◌, ◌≤◌, get_or, leb}
use Rattle.std.proofs.Common.{ap, ◌∙◌, subst, inl, inr, ⊎_elim, mod-eq_of_lt, div-lt_iff_lt-mul, mul_comm, mul-le-mul_left, mul-suc, arith}
use Rattle.std.proofs.Math.Nat.{mul-add-div, mul-add-mod_self_left, div-eq_of_lt, div-add-mod}
use Rattle.std.proofs.Math.Decide.{dec_lt}
use Rattle.basis.specs.Tests.{every}
use Rattle.basis.specs.Inner.Tells.{Tells}
use Rattle.basis.proofs.Laws.Tells.{tells_iff, tells_and, tells_or, tells_ltb, tells_leb}
use Rattle.basis.proofs.Laws.Every.{tells_every}
use Rattle.plan_limits.specs.Limits.{within}

-- place n of a group of `size`: what stands there passes, or it is spare room
pub tells_used : (size n : ℕ) {b : Bool} {P : Type 0} → Tells b P → Tells (leb size n || b) (n < size → P)
tells_used size n {P = P} t =
    tells_iff (⊎_elim (λ h l. absurd (omega arith)) (λ p l. p), one) (tells_or (tells_leb size n) t)
  where
    one : (n < size → P) → (size ≤ n) ⊎ P
    one f = elim (dec_lt n size) [ yes l ↦ inr (f l) | no l ↦ inl (omega arith) ]

pub tells_within : (low below count : ℕ) (xs : List ℕ) → Tells (within low below count xs) ((i : ℕ) → i < count → (low ≤ get_or xs i 0) × (get_or xs i 0 < below))
unfolding within
tells_within low below count xs =
    tells_every _ (λ i. (low ≤ get_or xs i 0) × (get_or xs i 0 < below)) count
    (λ i l. tells_and (tells_leb low (get_or xs i 0)) (tells_ltb (get_or xs i 0) below))

module _ (w k : ℕ) (wide : 0 < w) (size : ℕ → ℕ) (fits : (a : ℕ) → a < k → size a ≤ w) (g : ℕ → ℕ → ℕ → Bool) (P : ℕ → ℕ → Type 0) where
  pub tells_places : ((a n : ℕ) → Tells (g a n (w * a + n)) (n < size a → P a n)) → Tells (every (w * k) (λ i. g (i / w) (i % w) i)) ((a n : ℕ) → a < k → n < size a → P a n)
  tells_places h =
      tells_iff (each, λ f i l m. f (i / w) (i % w) (group i l) m)
      (tells_every (λ i. g (i / w) (i % w) i) (λ i. i % w < size (i / w) → P (i / w) (i % w)) (w * k)
      (λ i l. subst (λ (j : ℕ). Tells (g (i / w) (i % w) j) (i % w < size (i / w) → P (i / w) (i % w))) (div-add-mod i w) (h (i / w) (i % w))))
    where
      group : (i : ℕ) → i < w * k → i / w < k
      group i l = (div-lt_iff_lt-mul wide).1 (subst (λ (m : ℕ). i < m) (mul_comm w k) l)

      each : ((i : ℕ) → i < w * k → i % w < size (i / w) → P (i / w) (i % w)) → (a n : ℕ) → a < k → n < size a → P a n
      each f a n la ln =
          let s = fits a la in
          let nw : n < w = omega arith in
          let d : (w * a + n) / w ≡ a = mul-add-div wide a n ∙ ap (λ (x : ℕ). a + x) (div-eq_of_lt nw) ∙ omega arith in
          let m : (w * a + n) % w ≡ n = mul-add-mod_self_left w a n ∙ mod-eq_of_lt nw in
          let u = mul-le-mul_left w la in
          let v = mul-suc w a in
          let t = f (w * a + n) (omega arith) in
          let q : n < size a → P a n = rw (d, m) at t in
          q ln
