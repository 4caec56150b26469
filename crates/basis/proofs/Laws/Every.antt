-- What a test of every number below a bound, or of some, tells.
use Rattle.std.proofs.Common.{sym, ⊎_elim, eq-or-lt_of_le, le_of_suc-le-suc}
use Rattle.std.proofs.Math.Path.{subst}
use Rattle.std.specs.Prelude.{◌⊎◌, Bool}
use Rattle.std.proofs.Math.Logic.{inl, inr}
use Prim.Native.Nat.{ℕ, zero, suc, ◌<◌}
use native.Mathlib.Omega.{arith}
use Rattle.basis.specs.Tests.{every, some}
use Rattle.basis.specs.Inner.Tells.{Tells, holds, fails}
use Rattle.basis.proofs.Laws.Tells.{tells_iff, tells_and, tells_or}

module _ (f : ℕ → Bool) (P : ℕ → Type 0) where
  pub tells_every : (n : ℕ) → ((i : ℕ) → i < n → Tells (f i) (P i)) → Tells (every n f) ((i : ℕ) → i < n → P i)
  unfolding every
  tells_every zero h = holds (λ i l. absurd (omega arith))
  tells_every (suc n) h =
      tells_iff (all, λ k. (k n (omega arith), λ i l. k i (omega arith)))
      (tells_and (h n (omega arith)) (tells_every n (λ i l. h i (omega arith))))
    where
      all : P n × ((i : ℕ) → i < n → P i) → (i : ℕ) → i < suc n → P i
      all k i l = elim (eq-or-lt_of_le (le_of_suc-le-suc l)) [ inl e ↦ subst P (sym e) k.0 | inr q ↦ k.1 i q ]

  pub tells_some : (n : ℕ) → ((i : ℕ) → i < n → Tells (f i) (P i)) → Tells (some n f) ((i : ℕ) × (i < n) × P i)
  unfolding some
  tells_some zero h = fails (λ s. omega (arith, s.1))
  tells_some (suc n) h =
      tells_iff (⊎_elim (λ p. (n, omega arith, p)) (λ s. (s.0, omega (arith, s.1), s.2)), one_of)
      (tells_or (h n (omega arith)) (tells_some n (λ i l. h i (omega arith))))
    where
      one_of : (i : ℕ) × (i < suc n) × P i → P n ⊎ ((i : ℕ) × (i < n) × P i)
      one_of s = elim (eq-or-lt_of_le (le_of_suc-le-suc s.1)) [ inl e ↦ inl (subst P e s.2) | inr q ↦ inr (s.0, q, s.2) ]
