-- Two that have the same number in every field: the same is read of both, and what is read of one is such another.
use Rattle.std.specs.Prelude.{◌≡◌, refl, List, ◌∷◌, ℕ, zero, suc, ◌+◌, ◌<◌}
use Rattle.std.proofs.Common.{sym, ◌∙◌, ap, subst, arith}
use Rattle.format.specs.Format.{Format, done, field, ◌>>=◌, part_of, each, Holds, result}
use Rattle.format.proofs.Laws.Knowing.{Knows}

unfoldable pub Same : {S A : Type 0} → Format S A → S → S → Type 0
Same (done a) s u = Unit {0}
Same (field w get rules rest) s u = (get u ≡ get s) × Same (rest (get s)) s u

-- what is read of the bytes of s has its numbers
pub same_read : {S A : Type 0} (order : List ℕ) (back : A → S) (K : S → Type 0) (t : Format S A) → Knows order back K t → (s : S) → Holds order t s
    → K (back (result t s)) × Same t s (back (result t s))
unfolding Knows Holds result Same
same_read order back K (done a) h s o = (h, tt)
same_read order back K (field w get rules rest) h s o =
    let r = same_read order back (λ u. K u × (get u ≡ get s)) (rest (get s)) (h (get s) o.0 o.1) s o.2 in
    (r.0.0, (r.0.1, r.1))

pub same_result : {S A : Type 0} (t : Format S A) (s u : S) → Same t s u → result t u ≡ result t s
unfolding Same result
same_result (done a) s u h = refl
same_result (field w get rules rest) s u h = ap (λ (x : ℕ). result (rest x) u) h.0 ∙ same_result (rest (get s)) s u h.1

pub then_same : {S A B : Type 0} (t : Format S A) (follow : A → Format S B) (s u : S) (a : A) → result t s ≡ a → Same (t >>= follow) s u → Same t s u × Same (follow a) s u
unfolding Same result
then_same (done c) follow s u a e h = (tt, subst (λ b. Same (follow b) s u) e h)
then_same (field w get rules rest) follow s u a e h = let r = then_same (rest (get s)) follow s u a e h.1 in ((h.0, r.0), r.1)

pub part_same : {S T A : Type 0} (f : S → T) (t : Format T A) (s u : S) → Same (part_of f t) s u → Same t (f s) (f u)
unfolding Same
part_same f (done a) s u h = tt
part_same f (field w get rules rest) s u h = (h.0, part_same f (rest (get (f s))) s u h.1)

pub each_same : {S A : Type 0} (item : ℕ → Format S A) (s u : S) (i k : ℕ) → Same (each item i k) s u → (j : ℕ) → j < k → Same (item (i + j)) s u
each_same item s u i zero h j l = absurd (omega arith)
each_same item s u i (suc k) h zero l =
    let z : i ≡ i + 0 = omega arith in
    subst (λ (j : ℕ). Same (item j) s u) z (then_same (item i) (λ a. each item (i + 1) k >>= λ rest. done (a ∷ rest)) s u (result (item i) s) refl h).0
each_same item s u i (suc k) h (suc j) l =
    let z : i + 1 + j ≡ i + suc j = omega arith in
    let r = (then_same (item i) (λ a. each item (i + 1) k >>= λ rest. done (a ∷ rest)) s u (result (item i) s) refl h).1 in
    subst (λ (j : ℕ). Same (item j) s u) z
    (each_same item s u (i + 1) k (then_same (each item (i + 1) k) (λ rest. done (result (item i) s ∷ rest)) s u (result (each item (i + 1) k) s) refl r).0 j (omega arith))

-- and from the first one on
pub all_same : {S A : Type 0} (item : ℕ → Format S A) (s u : S) (k : ℕ) → Same (each item 0 k) s u → (j : ℕ) → j < k → Same (item j) s u
all_same item s u k h j l = let z : 0 + j ≡ j = omega arith in subst (λ (i : ℕ). Same (item i) s u) z (each_same item s u 0 k h j l)

-- a part that stands by a map's bits, and is read as `get`
pub read_same : {S A : Type 0} (t : ℕ → Format S A) (get : S → A) (map : S → ℕ) (s u : S) → map u ≡ map s → ((x : S) → result (t (map x)) x ≡ get x) → Same (t (map s)) s u → get s ≡ get u
read_same t get map s u e f h = sym (f s) ∙ sym (same_result (t (map s)) s u h) ∙ subst (λ (m : ℕ). result (t m) u ≡ get u) e (f u)
