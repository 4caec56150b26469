-- One turn of the loop that puts bytes: what is left is put after what was put.
use Rattle.std.specs.Prelude.{◌≡◌, refl, List, [], ℕ, suc, ◌+◌, ◌<◌, length, get_or, set, drop}
use Rattle.std.proofs.Common.{sym, ◌∙◌, ap, ap₂, arith, add-one, drop-cons}
use Rattle.std.proofs.Math.ListN.{drop_of_length-le}
use Rattle.std.proofs.lemmas.List.Edits.{sets}
use Rattle.wire.specs.Puts.{Puts}

module _ (xs : List ℕ) (i : ℕ) where
  pub bytes_next : (out out' : List ℕ) (at : ℕ) → i < length xs → out' ≡ set out (at + i) (get_or xs i 0)
      → sets out (at + i) (drop i xs) ≡ sets out' (at + (i + 1)) (drop (i + 1) xs)
  bytes_next out out' at h put =
      let next : suc (at + i) ≡ at + (i + 1) = omega arith in
      ap (sets out (at + i)) (drop-cons xs i 0 h)
      ∙ ap (λ (l : List ℕ). sets l (suc (at + i)) (drop (suc i) xs)) (sym put)
      ∙ ap₂ (λ (k j : ℕ). sets out' k (drop j xs)) next (sym (add-one i))

  pub bytes_done : (start out : List ℕ) (at : ℕ) → i ≡ length xs → sets start at xs ≡ sets out (at + i) (drop i xs) → Puts start at xs out (at + length xs)
  bytes_done start out at e s = let d : drop i xs ≡ [] = drop_of_length-le xs (omega arith) in record { past = omega arith; left = sym (s ∙ rw d refl) }
