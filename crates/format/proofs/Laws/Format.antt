-- The laws of the combinators: sequence, part, optional, repetition; one for each question about a format.
use Rattle.std.proofs.Math.Path.{◌≡◌, refl, subst}
use Rattle.std.proofs.Common.{sym, ◌∙◌, ap, ap₂, zero-add}
use Rattle.std.specs.Prelude.{Bool, ◌&&◌, ◌↔◌, length, get_or, leb}
use Rattle.std.proofs.Math.Bool.{true, false, cond}
use mathlib.Core.List.{List, [], ◌∷◌, ◌++◌, append_assoc, append-nil}
use Prim.Native.Nat.{ℕ, zero, suc, ◌+◌, ◌*◌, ◌^◌, ◌≤◌, ◌<◌}
use native.Mathlib.Omega.{arith}
use Rattle.std.proofs.Math.Dec.{ltb}
use borrow.Author.Tests.{ltb-true, ltb-false}
use Rattle.basis.specs.Parts.{part}
use Rattle.wire.specs.Number.{little, bytes_of}
use Rattle.format.specs.Format.{Format, done, field, ◌>>=◌, part_of, each, Found, good, fault, first, Answer, read, refused, on_found, on_answer, parse, print, Holds, is_good, keeps, result, Every, Within}
use Rattle.format.specs.Inner.Flat.{flat}

module _ (ends : ℕ) (order : List ℕ) (b : List ℕ) where
  -- reading in sequence
  pub parse_then : {S A B : Type 0} (t : Format S A) (follow : A → Format S B) (at : ℕ)
      → parse ends order b (t >>= follow) at ≡ on_answer (parse ends order b t at) (λ a next. parse ends order b (follow a) next) refused
  unfolding parse
  parse_then (done a) follow at = refl
  parse_then {B = B} (field w get rules rest) follow at =
      go (leb (at + w) (length b)) (first order (rules (little w b at))) (parse_then (rest (little w b at)) follow (at + w))
    where
      go : (u : Bool) (f : Found)
          → parse ends order b (rest (little w b at) >>= follow) (at + w)
          ≡ on_answer (parse ends order b (rest (little w b at)) (at + w)) (λ a next. parse ends order b (follow a) next) refused
          → cond u (on_found f (parse ends order b (rest (little w b at) >>= follow) (at + w)) (λ n. refused n at)) (refused ends at)
          ≡ on_answer {B = Answer B} (cond u (on_found f (parse ends order b (rest (little w b at)) (at + w)) (λ n. refused n at)) (refused ends at))
          (λ a next. parse ends order b (follow a) next) refused
      go true good h = h
      go true (fault n) h = refl
      go false f h = refl

  -- reading does not look at what is written
  pub parse_part : {S T A : Type 0} (f : S → T) (t : Format T A) (at : ℕ) → parse ends order b (part_of f t) at ≡ parse ends order b t at
  unfolding parse
  parse_part f (done a) at = refl
  parse_part f (field w get rules rest) at = rw (parse_part f (rest (little w b at)) (at + w))

  -- reading in sequence, from the front
  pub parse_assoc : {S A B C : Type 0} (t : Format S A) (f : A → Format S B) (g : B → Format S C) (at : ℕ)
      → parse ends order b ((t >>= f) >>= g) at ≡ parse ends order b (t >>= λ a. f a >>= g) at
  unfolding parse
  parse_assoc (done a) f g at = refl
  parse_assoc (field w get rules rest) f g at = rw (parse_assoc (rest (little w b at)) f g (at + w))

  -- one more of a list
  pub parse_each : {S A B : Type 0} (item : ℕ → Format S A) (i k : ℕ) (follow : List A → Format S B) (at : ℕ)
      → parse ends order b (each item i (suc k) >>= follow) at
      ≡ on_answer (parse ends order b (item i) at) (λ a next. parse ends order b (each item (i + 1) k >>= λ more. follow (a ∷ more)) next) refused
  parse_each {B = B} item i k follow at =
      parse_assoc (item i) (λ a. each item (i + 1) k >>= λ more. done (a ∷ more)) follow at
      ∙ parse_then (item i) (λ a. (each item (i + 1) k >>= λ more. done (a ∷ more)) >>= follow) at
      ∙ go (parse ends order b (item i) at)
    where
      go : (r : Answer _)
          → on_answer {B = Answer B} r (λ a next. parse ends order b ((each item (i + 1) k >>= λ more. done (a ∷ more)) >>= follow) next) refused
          ≡ on_answer r (λ a next. parse ends order b (each item (i + 1) k >>= λ more. follow (a ∷ more)) next) refused
      go (read a next) = parse_assoc (each item (i + 1) k) (λ more. done (a ∷ more)) follow next
      go (refused n p) = refl

-- writing
pub result_then : {S A B : Type 0} (t : Format S A) (follow : A → Format S B) (s : S) → result (t >>= follow) s ≡ result (follow (result t s)) s
unfolding result
result_then (done a) follow s = refl
result_then (field w get rules rest) follow s = result_then (rest (get s)) follow s

pub print_then : {S A B : Type 0} (t : Format S A) (follow : A → Format S B) (s : S) → print (t >>= follow) s ≡ print t s ++ print (follow (result t s)) s
unfolding print result
print_then (done a) follow s = refl
print_then (field w get rules rest) follow s =
    rw (print_then (rest (get s)) follow s) (sym (append_assoc (bytes_of w (get s)) (print (rest (get s)) s) (print (follow (result (rest (get s)) s)) s)))

-- one part, of which a is read, and what follows it
pub result_step : {S A B : Type 0} (t : Format S A) (follow : A → Format S B) (s : S) (a : A) → result t s ≡ a → result (t >>= follow) s ≡ result (follow a) s
result_step t follow s a e = result_then t follow s ∙ ap (λ c. result (follow c) s) e

pub print_step : {S A B : Type 0} (t : Format S A) (follow : A → Format S B) (s : S) (a : A) (xs ys : List ℕ) → result t s ≡ a → print t s ≡ xs → print (follow a) s ≡ ys → print (t >>= follow) s ≡ xs ++ ys
print_step t follow s a xs ys e g h = print_then t follow s ∙ ap₂ (λ (l m : List ℕ). l ++ m) g (ap (λ c. print (follow c) s) e ∙ h)

pub result_part : {S T A : Type 0} (f : S → T) (t : Format T A) (s : S) → result (part_of f t) s ≡ result t (f s)
unfolding result
result_part f (done a) s = refl
result_part f (field w get rules rest) s = result_part f (rest (get (f s))) s

pub print_part : {S T A : Type 0} (f : S → T) (t : Format T A) (s : S) → print (part_of f t) s ≡ print t (f s)
unfolding print
print_part f (done a) s = refl
print_part f (field w get rules rest) s = rw (print_part f (rest (get (f s))) s)

module _ (order : List ℕ) where
  -- what holds of what is written
  pub holds_then : {S A B : Type 0} (t : Format S A) (follow : A → Format S B) (s : S) → Holds order t s → Holds order (follow (result t s)) s → Holds order (t >>= follow) s
  unfolding Holds result
  holds_then (done a) follow s h k = k
  holds_then (field w get rules rest) follow s h k = (h.0, h.1, holds_then (rest (get s)) follow s h.2 k)

  pub holds_part : {S T A : Type 0} (f : S → T) (t : Format T A) (s : S) → Holds order t (f s) → Holds order (part_of f t) s
  unfolding Holds
  holds_part f (done a) s h = tt
  holds_part f (field w get rules rest) s h = (h.0, h.1, holds_part f (rest (get (f s))) s h.2)

  -- the test tells it
  pub keeps_iff : {S A : Type 0} (t : Format S A) (s : S) → (keeps order t s ≡ true) ↔ Holds order t s
  unfolding Holds keeps
  keeps_iff (done a) s = ((λ e. tt), (λ h. refl))
  keeps_iff (field w get rules rest) s = go (ltb (get s) (256 ^ w)) refl (first order (rules (get s))) refl (keeps order (rest (get s)) s) (keeps_iff (rest (get s)) s)
    where
      go : (b : Bool) → ltb (get s) (256 ^ w) ≡ b → (f : Found) → first order (rules (get s)) ≡ f → (c : Bool) → (c ≡ true) ↔ Holds order (rest (get s)) s
          → (b && (is_good f && c) ≡ true) ↔ ((get s < 256 ^ w) × (f ≡ good) × Holds order (rest (get s)) s)
      go true e good g c r = ((λ h. (ltb-true (get s) (256 ^ w) e, refl, r.0 h)), (λ h. r.1 h.2))
      go true e (fault n) g c r = ((λ h. absurd (let z : ◌≡◌ {A = ℕ} 0 1 = cc in omega arith)), (λ h. absurd (let z : ◌≡◌ {A = ℕ} 0 1 = cc in omega arith)))
      go false e f g c r = ((λ h. absurd (let z : ◌≡◌ {A = ℕ} 0 1 = cc in omega arith)), (λ h. absurd (omega (arith, ltb-false (get s) (256 ^ w) e, h.0))))

  pub then_holds : {S A B : Type 0} (t : Format S A) (follow : A → Format S B) (s : S) → Holds order (t >>= follow) s → Holds order t s × Holds order (follow (result t s)) s
  unfolding Holds result
  then_holds (done a) follow s h = (tt, h)
  then_holds (field w get rules rest) follow s h = let r = then_holds (rest (get s)) follow s h.2 in ((h.0, h.1, r.0), r.1)

  pub holds_step : {S A B : Type 0} (t : Format S A) (follow : A → Format S B) (s : S) (a : A) → result t s ≡ a → Holds order (t >>= follow) s → Holds order t s × Holds order (follow a) s
  holds_step t follow s a e h = let r = then_holds t follow s h in (r.0, subst (λ c. Holds order (follow c) s) e r.1)

  pub holds_join : {S A B : Type 0} (t : Format S A) (follow : A → Format S B) (s : S) (a : A) → result t s ≡ a → Holds order t s → Holds order (follow a) s → Holds order (t >>= follow) s
  holds_join t follow s a e h k = holds_then t follow s h (subst (λ c. Holds order (follow c) s) (sym e) k)

  pub part_holds : {S T A : Type 0} (f : S → T) (t : Format T A) (s : S) → Holds order (part_of f t) s → Holds order t (f s)
  unfolding Holds
  part_holds f (done a) s h = tt
  part_holds f (field w get rules rest) s h = (h.0, h.1, part_holds f (rest (get (f s))) s h.2)

  -- what holds, as one equivalence: of two parts in sequence, of one where the other holds anyway, of a part, of a list
  module _ {S A B : Type 0} (t : Format S A) (follow : A → Format S B) (s : S) where
    pub then_iff : {P Q : Type 0} (a : A) → result t s ≡ a → (Holds order t s ↔ P) → (P → Holds order (follow a) s ↔ Q) → Holds order (t >>= follow) s ↔ (P × Q)
    then_iff a e f g = (
      (λ h. let r = holds_step t follow s a e h in let x = f.0 r.0 in (x, (g x).0 r.1)),
      (λ q. holds_join t follow s a e (f.1 q.0) ((g q.0).1 q.1)),
    )

    pub given_iff : {Q : Type 0} (a : A) → result t s ≡ a → Holds order t s → (Holds order (follow a) s ↔ Q) → Holds order (t >>= follow) s ↔ Q
    given_iff a e h g = ((λ k. g.0 (holds_step t follow s a e k).1), (λ q. holds_join t follow s a e h (g.1 q)))

    pub last_iff : {P : Type 0} → ((a : A) → Holds order (follow a) s) → (Holds order t s ↔ P) → Holds order (t >>= follow) s ↔ P
    last_iff all f = ((λ h. f.0 (then_holds t follow s h).0), (λ p. holds_then t follow s (f.1 p) (all (result t s))))

  pub part_iff : {S T A P : Type 0} (f : S → T) (t : Format T A) (s : S) → (Holds order t (f s) ↔ P) → Holds order (part_of f t) s ↔ P
  part_iff f t s g = ((λ h. g.0 (part_holds f t s h)), (λ p. holds_part f t s (g.1 p)))

  -- what holds of all that can be read
  pub every_all : {S A : Type 0} (P : A → Type 0) → ((a : A) → P a) → (t : Format S A) → Every order P t
  unfolding Every
  every_all P f (done a) = f a
  every_all P f (field w get rules rest) = λ x i g. every_all P f (rest x)

  -- lengths
  pub within_more : {S A : Type 0} (n d : ℕ) (t : Format S A) → Within order n t → Within order (n + d) t
  unfolding Within
  within_more n d (done a) h = tt
  within_more n d (field w get rules rest) h = (h.0 + d, omega (arith, h.1), λ x i g. within_more h.0 d (rest x) (h.2 x i g))

  pub within_then : {S A B : Type 0} (n m : ℕ) (t : Format S A) (follow : A → Format S B) → Within order n t → Every order (λ a. Within order m (follow a)) t → Within order (n + m) (t >>= follow)
  unfolding Within Every
  within_then n m (done a) follow h k = let e : n + m ≡ m + n = omega arith in rw e (within_more m n (follow a) k)
  within_then n m (field w get rules rest) follow h k =
      (h.0 + m, omega (arith, h.1), λ x i g. within_then h.0 m (rest x) follow (h.2 x i g) (k x i g))

  pub within_part : {S T A : Type 0} (n : ℕ) (f : S → T) (t : Format T A) → Within order n t → Within order n (part_of f t)
  unfolding Within
  within_part n f (done a) h = tt
  within_part n f (field w get rules rest) h = (h.0, h.1, λ x i g. within_part h.0 f (rest x) (h.2 x i g))

  pub within_each : {S A : Type 0} (item : ℕ → Format S A) (n : ℕ) → ((i : ℕ) → Within order n (item i)) → (i k most : ℕ) → k ≤ most → Within order (most * n) (each item i k)
  unfolding Within
  within_each item n h i zero most l = tt
  within_each item n h i (suc k) zero l = absurd (omega arith)
  within_each {S = S} {A = A} item n h i (suc k) (suc most) l =
      let e : suc most * n ≡ n + (most * n + 0) = omega arith in
      let last : A → List A → Format S (List A) = λ a rest. done (a ∷ rest) in
      rw e
      (within_then n (most * n + 0) (item i) (λ a. each item (i + 1) k >>= λ rest. done (a ∷ rest)) (h i)
      (every_all (λ a. Within order (most * n + 0) (each item (i + 1) k >>= λ rest. done (a ∷ rest)))
      (λ a. within_then (most * n) 0 (each item (i + 1) k) (λ rest. done (a ∷ rest)) (within_each item n h (i + 1) k most (omega arith))
      (every_all (λ rest. Within order 0 (last a rest)) (λ rest. tt) (each item (i + 1) k))) (item i)))

-- what is read of a list that stands in an array
pub read_each : {S A : Type 0} (item : ℕ → Format S A) (s : S) (d : A) (l : List A) → ((j : ℕ) → result (item j) s ≡ get_or l j d) → (i k : ℕ) → result (each item i k) s ≡ part d l i k
unfolding result
read_each item s d l h i zero = refl
read_each {A = A} item s d l h i (suc k) =
    result_then (item i) (λ a. each item (i + 1) k >>= λ rest. done (a ∷ rest)) s
    ∙ result_then (each item (i + 1) k) (λ rest. done (result (item i) s ∷ rest)) s
    ∙ ap₂ (λ (a : A) (r : List A). a ∷ r) (h i) (read_each item s d l h (i + 1) k)

pub print_last : {S A B : Type 0} (t : Format S A) (follow : A → Format S B) (s : S) → print (follow (result t s)) s ≡ [] → print (t >>= follow) s ≡ print t s
print_last t follow s e = print_then t follow s ∙ ap (λ (l : List ℕ). print t s ++ l) e ∙ append-nil (print t s)

-- one more of a list, and the end of it
pub print_each : {S A : Type 0} (item : ℕ → Format S A) (s : S) (i k : ℕ) → print (each item i (suc k)) s ≡ print (item i) s ++ print (each item (i + 1) k) s
unfolding print
print_each item s i k =
    print_then (item i) (λ a. each item (i + 1) k >>= λ rest. done (a ∷ rest)) s
    ∙ ap (λ (l : List ℕ). print (item i) s ++ l) (print_last (each item (i + 1) k) (λ rest. done (result (item i) s ∷ rest)) s refl)

-- a list that stands in an array from place c on
pub print_part_of : {S A C : Type 0} (item : ℕ → Format S A) (s : S) (enc : C → List ℕ) (d : C) (l : List C) (c : ℕ) → ((j : ℕ) → print (item j) s ≡ enc (get_or l (c + j) d)) → (i k : ℕ)
    → print (each item i k) s ≡ flat enc (part d l (c + i) k)
unfolding print
print_part_of item s enc d l c h i zero = refl
print_part_of item s enc d l c h i (suc k) =
    let e : c + (i + 1) ≡ c + i + 1 = omega arith in
    print_each item s i k ∙ ap₂ (λ (x y : List ℕ). x ++ y) (h i) (print_part_of item s enc d l c h (i + 1) k ∙ ap (λ (n : ℕ). flat enc (part d l n k)) e)

module _ (order : List ℕ) {S A : Type 0} (item : ℕ → Format S A) (s : S) where
  pub each_holds : (i k : ℕ) → Holds order (each item i k) s → (j : ℕ) → j < k → Holds order (item (i + j)) s
  each_holds i zero h j l = absurd (omega arith)
  each_holds i (suc k) h zero l =
      let z : i ≡ i + 0 = omega arith in
      subst (λ (j : ℕ). Holds order (item j) s) z (then_holds order (item i) (λ a. each item (i + 1) k >>= λ rest. done (a ∷ rest)) s h).0
  each_holds i (suc k) h (suc j) l =
      let z : i + 1 + j ≡ i + suc j = omega arith in
      let r = (then_holds order (item i) (λ a. each item (i + 1) k >>= λ rest. done (a ∷ rest)) s h).1 in
      subst (λ (j : ℕ). Holds order (item j) s) z
      (each_holds (i + 1) k (then_holds order (each item (i + 1) k) (λ rest. done (result (item i) s ∷ rest)) s r).0 j (omega arith))

  pub holds_each : (i k : ℕ) → ((j : ℕ) → j < k → Holds order (item (i + j)) s) → Holds order (each item i k) s
  unfolding Holds
  holds_each i zero h = tt
  holds_each i (suc k) h =
      let z : i + 0 ≡ i = omega arith in
      holds_then order (item i) (λ a. each item (i + 1) k >>= λ rest. done (a ∷ rest)) s (subst (λ (j : ℕ). Holds order (item j) s) z (h 0 (omega arith)))
      (holds_then order (each item (i + 1) k) (λ rest. done (result (item i) s ∷ rest)) s
      (holds_each (i + 1) k (λ j l. let y : i + suc j ≡ i + 1 + j = omega arith in subst (λ (j : ℕ). Holds order (item j) s) y (h (suc j) (omega arith)))) tt)

  pub each_iff : (P : ℕ → Type 0) (k : ℕ) → ((j : ℕ) → j < k → Holds order (item j) s ↔ P j) → Holds order (each item 0 k) s ↔ ((j : ℕ) → j < k → P j)
  each_iff P k f = (
    (λ h j l. (f j l).0 (subst (λ (i : ℕ). Holds order (item i) s) (zero-add j) (each_holds 0 k h j l))),
    (λ p. holds_each 0 k (λ j l. subst (λ (i : ℕ). Holds order (item i) s) (sym (zero-add j)) ((f j l).1 (p j l)))),
  )
