-- The availabilities put into an array one by one.
use mathlib.Core.Path.{◌≡◌, sym, ◌∙◌, ap, ap₂}
use mathlib.Core.List.{List, ◌++◌, append-nil}
use Prim.Native.Nat.{ℕ, suc, ◌+◌, ◌*◌, ◌-◌, ◌<◌}
use native.Mathlib.Numerals.{add-one}
use native.Mathlib.Omega.{arith}
use lib.ListN.{length, set, take}
use lib.Seq.{take-suc-set, append_snoc}
use Rattle.wire.specs.Number.{little}
use Rattle.drive_input.specs.Input.{availabilities_from}

-- the first i of n are in the array, and the next stands behind them
abbrev pub Fills : List ℕ → ℕ → ℕ → List ℕ → ℕ → Type 0
Fills b at n times i = take i times ++ availabilities_from b (at + 8 * i) (n - i) ≡ availabilities_from b at n

pub fills_none : (b : List ℕ) (at n : ℕ) (times : List ℕ) → Fills b at n times 0
fills_none b at n times =
    let z : n - 0 ≡ n = omega arith in
    let y : at + 8 * 0 ≡ at = omega arith in
    ap₂ (availabilities_from b) y z

module _ (b : List ℕ) (at n : ℕ) (times : List ℕ) (i : ℕ) (f : Fills b at n times i) where
  pub fills_more : (x : ℕ) → x ≡ little 8 b (at + 8 * i) → i < n → i < length times → Fills b at n (set times i x) (i + 1)
  unfolding availabilities_from
  fills_more x e h l =
      let z : n - i ≡ suc (n - suc i) = omega arith in
      let y : at + 8 * suc i ≡ at + 8 * i + 8 = omega arith in
      rw (add-one i, take-suc-set times i x l, y)
      (append_snoc (take i times) x (availabilities_from b (at + 8 * i + 8) (n - suc i))
      ∙ sym (ap (λ (m : ℕ). take i times ++ availabilities_from b (at + 8 * i) m) z ∙ rw e)
      ∙ f)

  pub fills_all : n ≡ i → take n times ≡ availabilities_from b at n
  unfolding availabilities_from
  fills_all e =
      let z : n - i ≡ 0 = omega arith in
      sym (ap (λ (m : ℕ). take i times ++ availabilities_from b (at + 8 * i) m) z ∙ append-nil _ ∙ ap (λ (m : ℕ). take m times) (sym e)) ∙ f
