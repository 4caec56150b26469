-- The digits of a number put one by one: the last digit stands after those of the tenth.
use mathlib.Core.Path.{◌≡◌, sym, ◌∙◌, ap, subst}
use mathlib.Core.List.{List, [], ◌∷◌, ◌++◌}
use Prim.Native.Nat.{ℕ, suc, ◌+◌, ◌-◌, ◌/◌, ◌%◌, ◌≤◌, ◌<◌}
use native.Mathlib.Omega.{arith}
use Rattle.wire.specs.Puts.{Puts}
use Rattle.wire.proofs.Laws.Puts.{puts_none, puts_join}
use Rattle.timetable_text.specs.Text.{digits}
use Rattle.timetable_text.proofs.Laws.Digits.{digits_small, digits_more}

pub put_none : (l : List ℕ) (at k n : ℕ) → k ≡ 0 → Puts l at (digits k n) l at
unfolding digits
put_none l at k n z = rw z (puts_none l at)

module _ {l m : List ℕ} {at next : ℕ} (k n x : ℕ) (more : 0 < k) where
  pub put_small : n < 10 → x ≡ 48 + n → Puts l at (x ∷ []) m next → Puts l at (digits k n) m next
  put_small h e p =
      let s : k ≡ suc (k - 1) = omega arith in
      let d : digits k n ≡ x ∷ [] = rw (s, e) (digits_small (k - 1) n h) in
      subst (λ (xs : List ℕ). Puts l at xs m next) (sym d) p

  pub put_more : {j : List ℕ} {mid : ℕ} → 10 ≤ n → x ≡ 48 + n % 10 → Puts l at (digits (k - 1) (n / 10)) j mid → Puts j mid (x ∷ []) m next → Puts l at (digits k n) m next
  put_more h e p q =
      let s : k ≡ suc (k - 1) = omega arith in
      let d : digits k n ≡ digits (k - 1) (n / 10) ++ (x ∷ []) = ap (λ (i : ℕ). digits i n) s ∙ digits_more (k - 1) n h ∙ rw e in
      subst (λ (xs : List ℕ). Puts l at xs m next) (sym d) (puts_join p q)
