-- An array that is filled one value after the other.
use mathlib.Core.Path.{◌≡◌, sym, ◌∙◌, ap, ap₂}
use mathlib.Core.List.{List, ◌++◌, append-nil}
use Prim.Native.Nat.{ℕ, suc, ◌+◌, ◌*◌, ◌-◌, ◌≤◌, ◌<◌}
use native.Mathlib.Numerals.{add-one}
use native.Mathlib.Nat.{mul-suc}
use native.Mathlib.Omega.{arith}
use lib.ListN.{length, set, take}
use lib.Seq.{take-length, take-suc-set, append_snoc}
use Rattle.made.specs.Values.{array_at}

module _ {A : Type 0} (one : List ℕ → ℕ → A) (size : ℕ) (b : List ℕ) (at n : ℕ) where
  -- the first i of n stand in the array, and the next stands behind them
  abbrev pub Fills : List A → ℕ → Type 0
  Fills xs i = take i xs ++ array_at one size (n - i) b (at + size * i) ≡ array_at one size n b at

  pub fills_none : (xs : List A) → Fills xs 0
  fills_none xs =
      let z : n - 0 ≡ n = omega arith in
      let y : at + size * 0 ≡ at = omega arith in
      ap₂ (λ (m k : ℕ). array_at one size m b k) z y

  module _ (xs : List A) (i : ℕ) (f : Fills xs i) where
    pub fills_more : (x : A) → x ≡ one b (at + size * i) → i < n → i < length xs → Fills (set xs i x) (i + 1)
    unfolding array_at
    fills_more x e h l =
        let z : n - i ≡ suc (n - suc i) = omega arith in
        let y : at + size * suc i ≡ at + size * i + size = omega (arith, mul-suc size i) in
        rw (add-one i, take-suc-set xs i x l, y)
        (append_snoc (take i xs) x (array_at one size (n - suc i) b (at + size * i + size))
        ∙ sym (ap (λ (m : ℕ). take i xs ++ array_at one size m b (at + size * i)) z ∙ rw e)
        ∙ f)

    pub fills_all : length xs ≡ n → n ≤ i → i ≤ n → xs ≡ array_at one size n b at
    unfolding array_at
    fills_all s h k =
        let z : n - i ≡ 0 = omega arith in
        let y : i ≡ length xs = omega arith in
        sym (ap (λ (m : ℕ). take i xs ++ array_at one size m b (at + size * i)) z ∙ append-nil _ ∙ ap (λ (m : ℕ). take m xs) y ∙ take-length xs)
        ∙ f
