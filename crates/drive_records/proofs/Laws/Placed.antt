-- Bytes put at the front of a part of the buffer stand in the buffer at the part's start.
use Rattle.std.specs.Prelude.{◌≡◌, List, ◌++◌, ℕ, ◌+◌, ◌-◌, ◌≤◌, length, take, drop}
use Rattle.std.proofs.Common.{sym, ◌∙◌, append-nil, append_assoc, zero-add, arith, length-take, length-drop, drop-drop}
use Rattle.std.proofs.lemmas.List.Edits.{sets, sets-eq}
use Rattle.std.proofs.Math.Seq.{drop-length}
use Rattle.wire.specs.Puts.{Puts}

-- all of a buffer is put anew
sets_all : (l vs : List ℕ) → length vs ≡ length l → sets l 0 vs ≡ vs
sets_all l vs e =
    sets-eq vs l 0 (omega arith) ∙ rw (zero-add, e, drop-length) (append-nil vs)

module _ (l : List ℕ) (at end k : ℕ) (vs : List ℕ) (k-is : k ≡ end - at) (long : length vs ≡ k) (e : end ≡ at + k) (fits : end ≤ length l) where
  pub placed : (part : List ℕ) (n : ℕ) → Puts (take k (drop at l)) 0 vs part n → Puts l at vs (take at l ++ (part ++ drop k (drop at l))) end
  placed part n p =
      let z : length vs ≡ length (take k (drop at l)) = rw (length-take, length-drop) (omega arith) in
      let w : part ≡ vs = p.left ∙ sets_all (take k (drop at l)) vs z in
      record {
        past = omega arith;
        left = rw (w, drop-drop, ← long) (sym (sets-eq vs l at (omega arith) ∙ append_assoc (take at l) vs (drop (at + length vs) l)));
      }
