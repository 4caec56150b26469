-- A stretch of bytes: xs are the bytes of b from `at` to `next`. Stretches join, and a joined one comes apart.
use Rattle.std.specs.Prelude.{◌≡◌, refl, List, [], ◌∷◌, ◌++◌, ℕ, suc, ◌+◌, ◌-◌, ◌≤◌, ◌<◌, length, get_or, take, drop}
use Rattle.std.proofs.Common.{sym, ◌∙◌, ap, arith, length-append, length-take, length-drop, drop-cons, drop-drop, take-add, take_at, drop_at, take_all}
use Rattle.std.proofs.Math.Seq.{take-append_seam, drop-append_seam}

pub record Span (b : List ℕ) (at next : ℕ) (xs : List ℕ) : Type 0 where
  pub past : next ≡ at + length xs
  pub same : take (length xs) (drop at b) ≡ xs

pub none : (b : List ℕ) (at : ℕ) → Span b at at []
none b at = record { past = omega arith; same = refl }

pub join : {b : List ℕ} {at mid next : ℕ} {xs ys : List ℕ} → Span b at mid xs → Span b mid next ys → Span b at next (xs ++ ys)
join {b} {at} {mid} {next} {xs} {ys} s t =
    record {
      past = rw length-append (omega (arith, s.past, t.past));
      same =
          rw (length-append, take-add, drop-drop, s.same)
          (ap (λ (l : List ℕ). xs ++ l) (ap (λ (k : ℕ). take (length ys) (drop k b)) (sym s.past) ∙ t.same));
    }

-- a stretch lies within the bytes
pub within : (b : List ℕ) (at next : ℕ) (xs : List ℕ) → Span b at next xs → length xs ≤ length b - at
within b at next xs s = omega (arith, simp (length-take, length-drop) at (ap length s.same))

module _ (b : List ℕ) (at next : ℕ) (xs ys : List ℕ) (s : Span b at next (xs ++ ys)) where
  abbrev front : List ℕ
  front = take (length xs) (drop at b)

  abbrev back : List ℕ
  back = take (length ys) (drop (at + length xs) b)

  whole : front ++ back ≡ xs ++ ys
  whole = sym (rw (length-append, take-add, drop-drop)) ∙ s.same

  long : length front ≡ length xs
  long = rw (length-take, length-drop) (omega (arith, rw length-append at (within b at next (xs ++ ys) s)))

  pub first : Span b at (at + length xs) xs
  first = record { past = refl; same = sym (take_at front back (length xs) long) ∙ ap (take (length xs)) whole ∙ take-append_seam xs ys }

  pub second : Span b (at + length xs) next ys
  second =
      record {
        past = omega (arith, s.past, length-append xs ys);
        same = sym (drop_at front back (length xs) long) ∙ ap (drop (length xs)) whole ∙ drop-append_seam xs ys;
      }

-- the first byte of a stretch
module _ (b : List ℕ) (at next x : ℕ) (xs : List ℕ) (s : Span b at next (x ∷ xs)) where
  pub head_in : at < length b
  head_in = omega (arith, within b at next (x ∷ xs) s)

  pub head_is : x ≡ get_or b at 0
  head_is =
      let e : get_or b at 0 ∷ take (length xs) (drop (suc at) b) ≡ x ∷ xs = rw (drop-cons b at 0 head_in) at s.same in
      sym (ap (λ (l : List ℕ). get_or l 0 0) e)

  pub tail_is : Span b (at + 1) next xs
  tail_is = second b at next (x ∷ []) xs s

-- all of the bytes
pub all : (b : List ℕ) → Span b 0 (length b) b
all b = record { past = omega arith; same = take_all (length b) b (omega arith) }

-- a stretch from the front to the end is all of the bytes
pub all_is : (b xs : List ℕ) (next : ℕ) → Span b 0 next xs → next ≡ length b → b ≡ xs
all_is b xs next s e = sym (take_all (length xs) b (omega (arith, s.past))) ∙ s.same
