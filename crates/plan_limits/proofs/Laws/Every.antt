-- That every number below n passes a test: from what is known of each number or of each element of a list, and by a loop that goes
-- down from n. Assumes nothing.
use Rattle.std.specs.Prelude.{◌≡◌, refl, Bool, ◌&&◌, List, length, get_or, ◌≤◌, take, ltb}
use Rattle.std.specs.List.{list_all, IsAllAdjacentAnswer}
use Rattle.std.proofs.Common.{sym, ◌∙◌, eq-or-lt_of_le, le_of_suc-le-suc, add-one, arith, length-take-le}
use Rattle.std.proofs.lemmas.List.{get_or-take}
use Rattle.std.proofs.lemmas.List.Folds.{list_all_more}
use Rattle.std.proofs.Math.Bool.{and_comm}
use Rattle.std.proofs.Math.Path.{ap}
use Rattle.std.proofs.Math.Logic.{inl, inr}
use Rattle.std.proofs.Math.Bool.{true, false}
use Rattle.std.proofs.Math.Numerals.{sub-one}
use Prim.Native.Nat.{ℕ, zero, suc, ◌+◌, ◌-◌, ◌<◌}
use Rattle.basis.specs.Tests.{every}

and-false : (b : Bool) → b && false ≡ false
and-false true = refl
and-false false = refl

module _ (f : ℕ → Bool) where
  pub every_all : (n : ℕ) → ((k : ℕ) → k < n → f k ≡ true) → every n f ≡ true
  unfolding every
  every_all zero h = refl
  every_all (suc n) h = let e : f n ≡ true = h n (omega arith) in rw e (every_all n (λ k l. h k (omega arith)))

  -- some number below n does not pass
  pub every_not : (n i : ℕ) → i < n → f i ≡ false → every n f ≡ false
  unfolding every
  every_not zero i h e = absurd (omega arith)
  every_not (suc n) i h e =
      elim (eq-or-lt_of_le (le_of_suc-le-suc h)) [
        | inl q ↦ ap (λ (b : Bool). b && every n f) (ap f (sym q) ∙ e)
        | inr l ↦ ap (λ (b : Bool). f n && b) (every_not n i l e) ∙ and-false (f n)
      ]

-- a loop that goes down from n: what it has passed changes nothing
module _ (f : ℕ → Bool) (n : ℕ) where
  -- the test of the next number is passed
  pub every_on : (i : ℕ) → 0 < i → every n f ≡ every i f → f (i - 1) ≡ true → every n f ≡ every (i - 1) f
  unfolding every
  every_on zero h inv e = absurd (omega arith)
  every_on (suc j) h inv e =
      let g : f j ≡ true = rw sub-one at e in
      rw sub-one (inv ∙ ap (λ (b : Bool). b && every j f) g)

  -- it is not: neither is the whole
  pub every_off : (i : ℕ) → 0 < i → every n f ≡ every i f → f (i - 1) ≡ false → every n f ≡ false
  unfolding every
  every_off zero h inv e = absurd (omega arith)
  every_off (suc j) h inv e =
      let g : f j ≡ false = rw sub-one at e in
      inv ∙ ap (λ (b : Bool). b && every j f) g

  -- no number is left
  pub every_end : (i : ℕ) → (0 < i → ⊥) → every n f ≡ every i f → every n f ≡ true
  unfolding every
  every_end zero h inv = inv
  every_end (suc j) h inv = absurd (h (omega arith))

-- of the first n elements
pub every_taken : {A : Type 0} (test : A → Bool) (d : A) (xs : List A) (n : ℕ) → n ≤ length xs → every n (λ i. test (get_or xs i d)) ≡ list_all test (take n xs)
unfolding every
every_taken test d xs zero h = refl
every_taken test d xs (suc n) h =
    let lt : n < length xs = omega arith in
    let more : list_all test (take (suc n) xs) ≡ (list_all test (take n xs) && test (get_or xs n d)) = rw (← add-one) (list_all_more test xs n d lt) in
    rw (every_taken test d xs n (omega arith), and_comm (test (get_or xs n d)) (list_all test (take n xs))) (sym more)

-- of neighbours among them: a list rises
pub every_adjacent : (xs : List ℕ) (n : ℕ) (r : Bool) → n ≤ length xs → IsAllAdjacentAnswer (λ x y b. b ≡ ltb x y) (take n xs) r → r ≡ every (n - 1) (λ i. ltb (get_or xs i 0) (get_or xs (i + 1) 0))
every_adjacent xs n true h a =
    sym (every_all _ (n - 1) (λ k l.
    let e : length (take n xs) ≡ n = length-take-le n xs h in
    let t : true ≡ ltb (get_or (take n xs) k 0) (get_or (take n xs) (k + 1) 0) = a k 0 (omega arith) in
    sym (rw (get_or-take n xs k 0 (omega arith), get_or-take n xs (k + 1) 0 (omega arith)) at t)))
every_adjacent xs n false h (k, l, f) =
    let e : length (take n xs) ≡ n = length-take-le n xs h in
    let t : false ≡ ltb (get_or (take n xs) k 0) (get_or (take n xs) (k + 1) 0) = f 0 in
    sym (every_not _ (n - 1) k (omega arith) (sym (rw (get_or-take n xs k 0 (omega arith), get_or-take n xs (k + 1) 0 (omega arith)) at t)))
