-- Formats of one length, whatever their numbers are: where the bytes have that length, no field is cut and none are left.
use Rattle.std.specs.Prelude.{◌≡◌, refl, Bool, true, false, cond, List, [], ◌∷◌, ◌++◌, ℕ, ◌+◌, ◌≤◌, length}
use Rattle.std.proofs.Common.{sym, ◌∙◌, subst, inl, inr, arith, length-append, le-leb}
use Rattle.basis.specs.Lists.{Among}
use Rattle.wire.specs.Number.{little, bytes_of}
use Rattle.wire.proofs.Laws.Fields.{length_bytes}
use Rattle.format.specs.Format.{Rule, Format, done, field, number, ◌>>=◌, optional, Found, good, fault, first, Answer, read, refused, on_found, parse, print}
use Rattle.format.proofs.Laws.Reading.{first-of}

-- what is written has n bytes
unfoldable pub Sized : {S A : Type 0} → ℕ → Format S A → Type 0
Sized n (done a) = n ≡ 0
Sized n (field w get rules rest) = (k : ℕ) × (n ≡ w + k) × ((x : ℕ) → Sized k (rest x))

pub sized_number : {S : Type 0} (w : ℕ) (get : S → ℕ) (rules : ℕ → List Rule) → Sized w (number w get rules)
unfolding Sized
sized_number w get rules = (0, omega arith, λ x. refl)

pub sized_then : {S A B : Type 0} (n m : ℕ) (t : Format S A) (follow : A → Format S B) → Sized n t → ((a : A) → Sized m (follow a)) → Sized (n + m) (t >>= follow)
unfolding Sized
sized_then n m (done a) follow h k = let e : m ≡ n + m = omega arith in subst (λ (j : ℕ). Sized j (follow a)) e (k a)
sized_then n m (field w get rules rest) follow h k = (h.0 + m, omega (arith, h.1), λ x. sized_then h.0 m (rest x) follow (h.2 x) k)

pub sized_optional : {S A : Type 0} (stands : Bool) (n : ℕ) (absent : A) (t : Format S A) → Sized n t → Sized (cond stands n 0) (optional stands absent t)
unfolding Sized
sized_optional true n absent t h = h
sized_optional false n absent t h = refl

-- writing
pub sized_print : {S A : Type 0} (n : ℕ) (t : Format S A) → Sized n t → (s : S) → length (print t s) ≡ n
unfolding Sized print
sized_print n (done a) h s = sym h
sized_print n (field w get rules rest) h s =
    length-append (bytes_of w (get s)) (print (rest (get s)) s)
    ∙ omega (arith, h.1, length_bytes w (get s), sized_print h.0 (rest (get s)) (h.2 (get s)) s)

among_middle : (before behind : List ℕ) (n : ℕ) → Among n (before ++ (n ∷ behind))
among_middle [] behind n = inl refl
among_middle (m ∷ before) behind n = inr (among_middle before behind n)

-- a field's fault stands in the order
pub fault_among : (order : List ℕ) (rules : List Rule) (n : ℕ) → first order rules ≡ fault n → Among n order
fault_among order rules n e = let r = first-of order rules n e in subst (Among n) (sym r.stands) (among_middle r.before r.behind n)

-- reading: what holds of every answer that is read past all n bytes, and of every fault of a field, holds
pub sized_parse : (ends : ℕ) (order : List ℕ) (b : List ℕ) {S A : Type 0} (n : ℕ) (t : Format S A) → Sized n t → (at : ℕ) → at + n ≤ length b
    → (P : Answer A → Type 0) → ((a : A) → P (read a (at + n))) → ((m p : ℕ) → Among m order → P (refused m p)) → P (parse ends order b t at)
unfolding Sized parse
sized_parse ends order b n (done a) h at l P value bad = let e : at + n ≡ at = omega arith in subst (λ (k : ℕ). P (read a k)) e (value a)
sized_parse ends order b n (field w get rules rest) h at l P value bad =
    let fits : at + w ≤ length b = omega (arith, h.1) in
    let k : at + w + h.0 ≡ at + n = omega (arith, h.1) in
    let later : P (parse ends order b (rest (little w b at)) (at + w)) =
    sized_parse ends order b h.0 (rest (little w b at)) (h.2 (little w b at)) (at + w) (omega (arith, k)) P
    (λ a. subst (λ (j : ℕ). P (read a j)) (sym k) (value a)) bad
    in
    rw (le-leb (at + w) (length b) fits) (go (first order (rules (little w b at))) refl later)
  where
    go : (f : Found) → first order (rules (little w b at)) ≡ f → P (parse ends order b (rest (little w b at)) (at + w))
        → P (on_found f (parse ends order b (rest (little w b at)) (at + w)) (λ m. refused m at))
    go good e later = later
    go (fault m) e later = bad m at (fault_among order (rules (little w b at)) m e)
