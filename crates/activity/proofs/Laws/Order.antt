-- Faults in the order of their numbers: what holds of all numbers below one, and the lowest number at which something fails.
-- Assumes nothing.
use Rattle.std.specs.Prelude.{◌≡◌, refl, Bool, true, false, cond, ltb, ℕ, suc, ◌+◌, ◌<◌, ◌≤◌, Result, Ok, Err}
use Rattle.std.proofs.Common.{sym, subst, inl, inr, arith, eq-or-lt_of_le, below_more}
use borrow.Author.Tests.{ltb-true, ltb-false}
use Rattle.plan.specs.Fault.{number_of}
use Rattle.plan.proofs.Laws.Faults.{same_fault}
use Rattle.plan.specs.declared.Fault.{Fault}
use Rattle.activity.specs.Inner.Order.{Below, Lowest, earlier}

module _ {R : Fault → Type 0} where
  pub up : (f : Fault) → Below R (number_of f) → R f → Below R (suc (number_of f))
  up f h r g l =
      let k : number_of g ≤ number_of f = omega arith in
      elim (eq-or-lt_of_le k) [ inl q ↦ subst R (sym (same_fault g f q)) r | inr q ↦ h g q ]

  pub stop : (f : Fault) → Below R (number_of f) → (R f → ⊥) → Lowest R (Err f)
  stop f h n = record { fails = n; below = h }

-- the lowest number over one node more is the lower of two
pub lowest_more :
    (P : ℕ → Fault → Type 0) (n : ℕ) (a b : Result (Unit {0}) Fault) → Lowest (λ f. (j : ℕ) → j < n → P j f) a → Lowest (P n) b
    → Lowest (λ f. (j : ℕ) → j < n + 1 → P j f) (earlier a b)
lowest_more P n (Ok u) (Ok v) old new = λ f. below_more (λ (j : ℕ). P j f) n (old f) (new f)
lowest_more P n (Ok u) (Err g) old new =
    record { fails = λ h. new.fails (h n (omega arith)); below = λ f h. below_more (λ (j : ℕ). P j f) n (old f) (new.below f h) }
lowest_more P n (Err f) (Ok u) old new =
    record { fails = λ h. old.fails (λ j m. h j (omega arith)); below = λ g h. below_more (λ (j : ℕ). P j g) n (old.below g h) (new g) }
lowest_more P n (Err f) (Err g) old new = lower (ltb (number_of g) (number_of f)) refl
  where
    lower : (t : Bool) → ltb (number_of g) (number_of f) ≡ t → Lowest (λ f. (j : ℕ) → j < n + 1 → P j f) (cond t (Err g) (Err f))
    lower true e =
        let l : number_of g < number_of f = ltb-true _ _ e in
        record { fails = λ h. new.fails (h n (omega arith)); below = λ i h. below_more (λ (j : ℕ). P j i) n (old.below i (omega arith)) (new.below i h) }
    lower false e =
        let l : number_of f ≤ number_of g = ltb-false _ _ e in
        record { fails = λ h. old.fails (λ j m. h j (omega arith)); below = λ i h. below_more (λ (j : ℕ). P j i) n (old.below i h) (new.below i (omega arith)) }
