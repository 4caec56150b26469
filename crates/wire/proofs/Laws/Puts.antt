-- Bytes put one after another join; a buffer keeps its length; what is left of it.
use Rattle.std.specs.Prelude.{◌≡◌, refl, List, [], ◌∷◌, ◌++◌, ℕ, suc, ◌+◌, ◌%◌, ◌≤◌, ◌<◌, length, set}
use Rattle.std.proofs.Common.{sym, ◌∙◌, ap, ap₂, zero-add, add-zero, add-suc, suc-add, arith, length-append, le-leb}
use Rattle.std.proofs.lemmas.List.Edits.{sets, sets-eq}
use Rattle.std.proofs.Math.Seq.{length-sets}
use Rattle.std.proofs.lemmas.Bool.{lt-leb}
use Rattle.wire.specs.Number.{bytes_of}
use Rattle.wire.specs.Puts.{Puts, left_by}

pub puts_none : (l : List ℕ) (at : ℕ) → Puts l at [] l at
puts_none l at = record { past = omega arith; left = refl }

pub puts_byte : {l m : List ℕ} {at next x : ℕ} → x < 256 → Puts l at (x ∷ []) m next → Puts l at (bytes_of 1 x) m next
puts_byte {x = x} h p = let z : x % 256 ≡ x = omega arith in rw z p

pub sets_append : (vs l ws : List ℕ) (i : ℕ) → sets l i (vs ++ ws) ≡ sets (sets l i vs) (i + length vs) ws
sets_append [] l ws i = rw add-zero
sets_append (v ∷ vs) l ws i = rw (add-suc, ← suc-add) (sets_append vs (set l i v) ws (suc i))

pub puts_join : {l m n : List ℕ} {at mid next : ℕ} {xs ys : List ℕ} → Puts l at xs m mid → Puts m mid ys n next → Puts l at (xs ++ ys) n next
puts_join {l} {m} {n} {at} {mid} {next} {xs} {ys} p q =
    record {
      past = rw length-append (omega (arith, p.past, q.past));
      left =
          q.left ∙ ap₂ (λ (k : List ℕ) (i : ℕ). sets k i ys) p.left p.past ∙ sym (sets_append xs l ys at);
    }

-- the buffer keeps its length
pub puts_length : {l m : List ℕ} {at next : ℕ} {xs : List ℕ} → Puts l at xs m next → length m ≡ length l
puts_length {l} {m} {at} {next} {xs} p = ap length p.left ∙ length-sets l at xs

-- ---- what is left of a lent buffer

module _ (text out : List ℕ) where
  pub left_short : length out < length text → out ≡ left_by text out
  left_short h = rw (lt-leb (length text) (length out) h)

  pub left_all : length text ≤ length out → {after : List ℕ} {end : ℕ} → Puts out 0 text after end → after ≡ left_by text out
  left_all fits p = p.left ∙ sets-eq text out 0 (omega arith) ∙ rw (le-leb (length text) (length out) fits, zero-add)
