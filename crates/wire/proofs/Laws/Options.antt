-- Fields as options: what a `get`, and what a number made of the bytes that a `get` found, answer.
use Rattle.std.specs.Prelude.{◌≡◌, refl, cond, Option, Some, None, List, ℕ, ◌+◌, length, take, drop, leb, MatchOption, option_copied}
use Rattle.std.specs.Option.{IsSomeAnd}
use Rattle.std.specs.Slice.{IsItemAt}
use Rattle.std.proofs.Common.{sym, ◌∙◌, ap, subst, arith, add-one, le-leb}
use Rattle.std.proofs.lemmas.Bool.{lt-leb}
use Rattle.std.proofs.Math.Decide.{dec_le}
use denote.Bor.{Bor}
use Rattle.wire.specs.Number.{little, field_at}

pub field_get : (r : Option (Bor ℕ)) (b : List ℕ) (at : ℕ) → IsItemAt b at r → option_copied r ≡ field_at Some None 1 b at
unfolding field_at
field_get None b at h = let t = h.0 ∙ ap (λ n. leb n (length b)) (sym (add-one at)) in rw (sym t) refl
field_get (Some x) b at h =
    let t = h.0 ∙ ap (λ n. leb n (length b)) (sym (add-one at)) in
    let e : x.now ≡ little 1 b at = omega (arith, h.4 (omega arith) 0) in
    rw (sym t, e) refl

some_is : (r : Option ℕ) (x : ℕ) → IsSomeAnd r (λ y. y ≡ x) → r ≡ Some x
some_is None x h = absurd h
some_is (Some y) x h = ap Some h

-- what `made` makes of the bytes that were found
pub field_map : (made : List ℕ → ℕ) (w : ℕ) (b : List ℕ) (at : ℕ) (found : Option (List ℕ)) (r : Option ℕ) → made (take w (drop at b)) ≡ little w b at
    → found ≡ cond (leb (at + w) (length b)) (Some (take w (drop at b))) None → MatchOption found (r ≡ None) (λ x. IsSomeAnd r (λ y. y ≡ made x))
    → r ≡ field_at Some None w b at
unfolding field_at
field_map made w b at found r m f h =
    elim (dec_le (at + w) (length b)) [
      | yes k ↦
          let t = le-leb (at + w) (length b) k in
          let e : found ≡ Some (take w (drop at b)) = f ∙ rw t refl in
          rw (t, sym m) (some_is r _ (subst (λ o. MatchOption o (r ≡ None) (λ x. IsSomeAnd r (λ y. y ≡ made x))) e h))
      | no k ↦
          let t = lt-leb (at + w) (length b) (omega arith) in
          let e : found ≡ None = f ∙ rw t refl in
          rw t (subst (λ o. MatchOption o (r ≡ None) (λ x. IsSomeAnd r (λ y. y ≡ made x))) e h)
    ]
