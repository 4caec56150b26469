-- Members of a list, lists without repetition, lists cut in two, and lists of one value.
use Rattle.std.specs.Prelude.{◌≡◌, refl, ◌⊎◌, List, [], ◌∷◌, ◌++◌, map, ℕ, zero, suc, ◌+◌, ◌≤◌, ◌<◌, length, get_or, take, drop, replicate}
use Rattle.std.proofs.Common.{sym, ap, ap₂, ◌∙◌, subst, inl, inr, arith, eq-or-lt_of_le, le_of_suc-le-suc, add-one, length-append}
use Rattle.std.proofs.lemmas.List.{length-map}
use Rattle.std.proofs.Math.Seq.{take-nil, drop-nil}
use Rattle.basis.specs.Lists.{Among, Distinct}

module _ {X : Type 0} where
  pub among_left : (x : X) (xs ys : List X) → Among x xs → Among x (xs ++ ys)
  among_left x [] ys h = absurd h
  among_left x (y ∷ xs) ys (inl e) = inl e
  among_left x (y ∷ xs) ys (inr h) = inr (among_left x xs ys h)

  pub among_right : (x : X) (xs ys : List X) → Among x ys → Among x (xs ++ ys)
  among_right x [] ys h = h
  among_right x (y ∷ xs) ys h = inr (among_right x xs ys h)

  pub among_either : (x : X) (xs ys : List X) → Among x (xs ++ ys) → Among x xs ⊎ Among x ys
  among_either x [] ys h = inr h
  among_either x (y ∷ xs) ys (inl e) = inl (inl e)
  among_either x (y ∷ xs) ys (inr h) = elim (among_either x xs ys h) [ inl i ↦ inl (inr i) | inr i ↦ inr i ]

  -- the list, cut at a member
  pub cut : (x : X) (xs : List X) → Among x xs → (ys : List X) × (zs : List X) × (xs ≡ ys ++ (x ∷ zs))
  cut x [] h = absurd h
  cut x (y ∷ xs) (inl e) = ([], xs, ap (λ (z : X). z ∷ xs) (sym e))
  cut x (y ∷ xs) (inr h) = let c = cut x xs h in (y ∷ c.0, c.1, ap (λ (l : List X). y ∷ l) c.2)

  pub distinct_left : (xs ys : List X) → Distinct (xs ++ ys) → Distinct xs
  distinct_left [] ys h = tt
  distinct_left (x ∷ xs) ys h = (λ i. h.0 (among_left x xs ys i), distinct_left xs ys h.1)

  pub distinct_right : (xs ys : List X) → Distinct (xs ++ ys) → Distinct ys
  distinct_right [] ys h = h
  distinct_right (x ∷ xs) ys h = distinct_right xs ys h.1

  pub distinct_both : (xs ys : List X) → Distinct xs → Distinct ys → ((x : X) → Among x xs → Among x ys → ⊥) → Distinct (xs ++ ys)
  distinct_both [] ys h i apart = i
  distinct_both (x ∷ xs) ys h i apart =
      (λ j. elim (among_either x xs ys j) [ inl u ↦ h.0 u | inr u ↦ apart x (inl refl) u ], distinct_both xs ys h.1 i (λ z u v. apart z (inr u) v))

  -- a list without repetition is no longer than one that has its members
  pub fewer : (xs ys : List X) → Distinct xs → ((x : X) → Among x xs → Among x ys) → length xs ≤ length ys
  fewer [] ys d h = omega arith
  fewer (x ∷ xs) ys d h =
      let c = cut x ys (h x (inl refl)) in
      let u = fewer xs (c.0 ++ c.1) d.1 (λ y i. rest y i c.0 c.1 (among_either y c.0 (x ∷ c.1) (subst (Among y) c.2 (h y (inr i))))) in
      let v = length-append c.0 c.1 in
      let w = length-append c.0 (x ∷ c.1) in
      let z = ap length c.2 in
      omega arith
    where
      rest : (y : X) → Among y xs → (us vs : List X) → Among y us ⊎ Among y (x ∷ vs) → Among y (us ++ vs)
      rest y i us vs (inl j) = among_left y us vs j
      rest y i us vs (inr (inl e)) = absurd (d.0 (subst (λ (z : X). Among z xs) e i))
      rest y i us vs (inr (inr j)) = among_right y us vs j

  pub head_same : {x y : X} {xs ys : List X} → x ∷ xs ≡ y ∷ ys → x ≡ y
  head_same e = cc

  pub tail_same : {x y : X} {xs ys : List X} → x ∷ xs ≡ y ∷ ys → xs ≡ ys
  tail_same e = cc

  pub nil_cons : {A : Type 0} {x : X} {xs : List X} → [] ≡ x ∷ xs → A
  nil_cons e = absurd (let z : ◌≡◌ {A = ℕ} 0 1 = cc in omega arith)

  -- two cuts of one list at the same length are at the same member
  pub cut_same : (us ys : List X) (i x : X) (vs zs : List X) → length us ≡ length ys → us ++ (i ∷ vs) ≡ ys ++ (x ∷ zs) → i ≡ x
  cut_same [] [] i x vs zs l e = head_same e
  cut_same [] (y ∷ ys) i x vs zs l e = absurd (omega arith)
  cut_same (u ∷ us) [] i x vs zs l e = absurd (omega arith)
  cut_same (u ∷ us) (y ∷ ys) i x vs zs l e = cut_same us ys i x vs zs (omega arith) (tail_same e)

  -- a cut of two joined lists is in the one or in the other
  pub seam : (xs ns ys : List X) (x : X) (zs : List X) → xs ++ ns ≡ ys ++ (x ∷ zs) → ((us : List X) × (xs ≡ ys ++ (x ∷ us))) ⊎ ((us : List X) × (ys ≡ xs ++ us) × (ns ≡ us ++ (x ∷ zs)))
  seam [] ns ys x zs e = inr (ys, refl, e)
  seam (w ∷ xs) ns [] x zs e = inl (xs, ap (λ (z : X). z ∷ xs) (head_same e))
  seam (w ∷ xs) ns (y ∷ ys) x zs e = go (seam xs ns ys x zs (tail_same e))
    where
      go : ((us : List X) × (xs ≡ ys ++ (x ∷ us))) ⊎ ((us : List X) × (ys ≡ xs ++ us) × (ns ≡ us ++ (x ∷ zs))) → ((us : List X) × (w ∷ xs ≡ (y ∷ ys) ++ (x ∷ us))) ⊎ ((us : List X) × (y ∷ ys ≡ (w ∷ xs) ++ us) × (ns ≡ us ++ (x ∷ zs)))
      go (inl i) = inl (i.0, ap₂ (λ (z : X) (l : List X). z ∷ l) (head_same e) i.1)
      go (inr i) = inr (i.0, ap₂ (λ (z : X) (l : List X). z ∷ l) (sym (head_same e)) i.1, i.2)

module _ {X Y : Type 0} (f : X → Y) where
  pub among_map : (x : X) (xs : List X) → Among x xs → Among (f x) (map f xs)
  among_map x [] h = absurd h
  among_map x (y ∷ xs) (inl e) = inl (ap f e)
  among_map x (y ∷ xs) (inr h) = inr (among_map x xs h)

  pub map_among : (y : Y) (xs : List X) → Among y (map f xs) → (x : X) × Among x xs × (y ≡ f x)
  map_among y [] h = absurd h
  map_among y (x ∷ xs) (inl e) = (x, inl refl, e)
  map_among y (x ∷ xs) (inr h) = let c = map_among y xs h in (c.0, inr c.1, c.2)

  pub distinct_map : ((x z : X) → f x ≡ f z → x ≡ z) → (xs : List X) → Distinct xs → Distinct (map f xs)
  distinct_map inj [] d = tt
  distinct_map inj (x ∷ xs) d = (λ h. let c = map_among (f x) xs h in d.0 (subst (λ (z : X). Among z xs) (sym (inj x c.0 c.2)) c.1), distinct_map inj xs d.1)

  -- a cut of a mapped list is a mapped cut
  pub cut_map : (xs : List X) (ys : List Y) (y : Y) (zs : List Y) → map f xs ≡ ys ++ (y ∷ zs) → (us : List X) × (x : X) × (vs : List X) × (xs ≡ us ++ (x ∷ vs)) × (ys ≡ map f us) × (y ≡ f x)
  cut_map [] [] y zs e = nil_cons e
  cut_map [] (w ∷ ys) y zs e = nil_cons e
  cut_map (x ∷ xs) [] y zs e = ([], x, xs, refl, refl, sym (head_same e))
  cut_map (x ∷ xs) (w ∷ ys) y zs e =
      let c = cut_map xs ys y zs (tail_same e) in
      (x ∷ c.0, c.1, c.2, ap (λ (l : List X). x ∷ l) c.3, ap₂ (λ (z : Y) (l : List Y). z ∷ l) (sym (head_same e)) c.4, c.5)

-- ---- numbers below a bound

abbrev pub upto : ℕ → List ℕ
upto zero = []
upto (suc k) = k ∷ upto k

pub among_upto : (k m : ℕ) → m < k → Among m (upto k)
among_upto zero m l = absurd (omega arith)
among_upto (suc k) m l = elim (eq-or-lt_of_le (le_of_suc-le-suc l)) [ inl e ↦ inl e | inr h ↦ inr (among_upto k m h) ]

pub length_upto : (k : ℕ) → length (upto k) ≡ k
length_upto zero = refl
length_upto (suc k) = ap suc (length_upto k)

-- ---- cuts

-- what stands before n is not n
pub cut_apart : {X : Type 0} (ms : List X) (n : X) (os : List X) → Distinct (ms ++ (n ∷ os)) → Among n ms → ⊥
cut_apart [] n os d i = i
cut_apart (m ∷ ms) n os d (inl e) = d.0 (subst (λ z. Among z (ms ++ (n ∷ os))) e (among_right n ms (n ∷ os) (inl refl)))
cut_apart (m ∷ ms) n os d (inr i) = cut_apart ms n os d.1 i

-- a list of one member is cut in one way
pub cut_one : {X : Type 0} (n : X) (us : List X) (x : X) (zs : List X) → n ∷ [] ≡ us ++ (x ∷ zs) → (us ≡ []) × (x ≡ n)
cut_one n [] x zs e = (refl, sym (head_same e))
cut_one n (u ∷ []) x zs e = nil_cons (tail_same e)
cut_one n (u ∷ v ∷ us) x zs e = nil_cons (tail_same e)

-- ---- places

-- what stands at a place of a list is one of it, and one of it stands at a place
pub among_at : {A : Type 0} (d : A) (xs : List A) (k : ℕ) → k < length xs → Among (get_or xs k d) xs
among_at d [] k l = absurd (omega arith)
among_at d (x ∷ xs) zero l = inl refl
among_at d (x ∷ xs) (suc k) l = inr (among_at d xs k (omega arith))

pub at_among : {A : Type 0} (d : A) (x : A) (xs : List A) → Among x xs → (k : ℕ) × (k < length xs) × (get_or xs k d ≡ x)
at_among {A = A} d x [] h = elim h [ ]
at_among d x (y ∷ ys) (inl e) = (0, omega arith, sym e)
at_among d x (y ∷ ys) (inr h) = let r = at_among d x ys h in (suc r.0, (let u = r.1 in omega arith), r.2)

-- the entries from place n up to place k: one, and the rest; or none
pub next_entry : {A : Type 0} (l : List A) (d : A) (n k : ℕ) → n < k → n < length l → drop n (take k l) ≡ get_or l n d ∷ drop (n + 1) (take k l)
next_entry {A} l d n k h g = rw add-one (cons l n k h g)
  where
    cons : (l : List A) (n k : ℕ) → n < k → n < length l → drop n (take k l) ≡ get_or l n d ∷ drop (suc n) (take k l)
    cons [] n k h g = absurd (omega arith)
    cons (x ∷ l) n zero h g = absurd (omega arith)
    cons (x ∷ l) zero (suc k) h g = refl
    cons (x ∷ l) (suc n) (suc k) h g = cons l n k (omega arith) (omega arith)

pub no_entry : {A : Type 0} (l : List A) (n k : ℕ) → k ≤ n → drop n (take k l) ≡ []
no_entry [] n k h = rw (take-nil k) (drop-nil n)
no_entry (x ∷ l) n zero h = drop-nil n
no_entry (x ∷ l) zero (suc k) h = absurd (omega arith)
no_entry (x ∷ l) (suc n) (suc k) h = no_entry l n k (omega arith)

pub all_same : {A : Type 0} (n j : ℕ) (x : A) → get_or (replicate n x) j x ≡ x
all_same zero j x = refl
all_same (suc n) zero x = refl
all_same (suc n) (suc j) x = all_same n j x

-- what owning a struct tells of a field that is an array of structs
pub unmapped : (X Y : Type 0) (f : X → Y) (l : List X) (n : ℕ) → length (map f l) ≡ n → length l ≡ n
unmapped X Y f l n e = sym (length-map l f) ∙ e

pub map-append : {X Y : Type 0} (f : X → Y) (xs ys : List X) → map f (xs ++ ys) ≡ map f xs ++ map f ys
map-append f [] ys = refl
map-append f (x ∷ xs) ys = ap (λ ls. f x ∷ ls) (map-append f xs ys)
