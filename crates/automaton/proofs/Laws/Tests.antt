-- What the tests of all numbers below n tell.
use Rattle.std.specs.Prelude.{◌≡◌, refl, Bool, true, false, ◌&&◌, ℕ, zero, suc, ◌<◌}
use Rattle.std.proofs.Common.{sym, subst, arith}
use Rattle.std.proofs.Math.Decide.{ℕ_discrete}
use Rattle.basis.specs.Inner.Tells.{Tells}
use Rattle.basis.proofs.Laws.Bools.{clash, and_left, and_right}
use Rattle.basis.proofs.Laws.Tells.{tells, told_true, told_false}
use Rattle.automaton.specs.Tests.{all}

-- ---- laws

pub all_true : (n : ℕ) (f : ℕ → Bool) → all n f ≡ true → (k : ℕ) → k < n → f k ≡ true
unfolding all
all_true zero f h k l = absurd (omega arith)
all_true (suc n) f h k l = elim (ℕ_discrete k n) [ yes e ↦ subst (λ (j : ℕ). f j ≡ true) (sym e) (and_right (all n f) (f n) h) | no ne ↦ all_true n f (and_left (all n f) (f n) h) k (omega (arith, ne)) ]

-- where not all pass, one does not
pub all_false : (n : ℕ) (f : ℕ → Bool) → all n f ≡ false → (k : ℕ) × (k < n) × (f k ≡ false)
unfolding all
all_false zero f h = clash h
all_false (suc n) f h = go (all n f) refl h (λ e. all_false n f e)
  where
    go : (b : Bool) → all n f ≡ b → (b && f n) ≡ false → (all n f ≡ false → (k : ℕ) × (k < n) × (f k ≡ false)) → (k : ℕ) × (k < suc n) × (f k ≡ false)
    go true e h rec = (n, omega arith, h)
    go false e h rec = let x = rec e in (x.0, omega (arith, x.1), x.2)

pub all_tells : (n : ℕ) (f : ℕ → Bool) (P : ℕ → Type 0) → ((k : ℕ) → k < n → Tells (f k) (P k)) → Tells (all n f) ((k : ℕ) → k < n → P k)
all_tells n f P t = tells (all n f) (λ e k l. told_true (t k l) (all_true n f e k l)) (λ e h. let x = all_false n f e in told_false (t x.0 x.1) x.2 (h x.0 x.1))
