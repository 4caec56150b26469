-- The order of ties is an order, by whatever numbers it goes; of two that go before neither the other both have the same numbers.
use Rattle.std.specs.Prelude.{◌≡◌, refl, Bool, false, List, [], ◌∷◌, ◌⊎◌, ℕ, ◌≤◌, ◌<◌, eqb, ltb, get_or}
use Rattle.std.proofs.Common.{sym, ◌∙◌, ap, ap₂, true≢false, ⊎_elim, arith, eq-or-lt_of_le, ltb-true, ltb-false, lt-ltb, le-ltb, eqb-true, eq-eqb, ne_eqb}
use Rattle.std.proofs.Math.Bool.{true}
use Rattle.std.proofs.Math.Logic.{inl, inr}
use Rattle.std.proofs.lemmas.Bool.{eqb-false}
use Rattle.basis.proofs.Laws.Bools.{by_test}
use Rattle.plan.specs.declared.Node.{Node}
use Rattle.run_window.specs.declared.Entry.{Entry}
use Rattle.run_window.specs.Window.{precedes, identity_of, rank_at, starts_before, ends_before, by_start}
use Rattle.run_window.specs.Places.{SameNode}

-- ---- lists of numbers

-- xs goes before ys, or is the same: by the first number in which they differ
pub data AtMost : List ℕ → List ℕ → Type 0 where
  ends : {ys : List ℕ} → AtMost [] ys
  lower : {x y : ℕ} {xs ys : List ℕ} → x < y → AtMost (x ∷ xs) (y ∷ ys)
  same : {x y : ℕ} {xs ys : List ℕ} → x ≡ y → AtMost xs ys → AtMost (x ∷ xs) (y ∷ ys)

at_most_trans : (xs ys zs : List ℕ) → AtMost xs ys → AtMost ys zs → AtMost xs zs
at_most_trans (x ∷ xs) [] zs p q = elim p [ ]
at_most_trans (x ∷ xs) (y ∷ ys) [] p q = elim q [ ]
at_most_trans [] ys zs p q = ends
at_most_trans (x ∷ xs) (y ∷ ys) (z ∷ zs) (lower p) (lower q) = lower (let l : x < z = omega arith in l)
at_most_trans (x ∷ xs) (y ∷ ys) (z ∷ zs) (lower p) (same e q) = lower (let l : x < z = omega arith in l)
at_most_trans (x ∷ xs) (y ∷ ys) (z ∷ zs) (same d p) (lower q) = lower (let l : x < z = omega arith in l)
at_most_trans (x ∷ xs) (y ∷ ys) (z ∷ zs) (same d p) (same e q) = same (d ∙ e) (at_most_trans xs ys zs p q)

at_most_itself : (xs : List ℕ) → AtMost xs xs
at_most_itself [] = ends
at_most_itself (x ∷ xs) = same refl (at_most_itself xs)

-- of lists of one number
pub at_most_number : {x y : ℕ} → x ≤ y → AtMost (x ∷ []) (y ∷ [])
at_most_number l = ⊎_elim (λ e. same e ends) lower (eq-or-lt_of_le l)

-- each at or before the other
at_most_both : (xs ys : List ℕ) → AtMost xs ys → AtMost ys xs → xs ≡ ys
at_most_both [] (y ∷ ys) _ x5 = elim x5 [ ]
at_most_both (x ∷ xs) [] x6 _ = elim x6 [ ]
at_most_both [] [] ends ends = refl
at_most_both (x ∷ xs) (y ∷ ys) (lower p) (lower q) = absurd (omega arith)
at_most_both (x ∷ xs) (y ∷ ys) (lower p) (same e q) = absurd (omega arith)
at_most_both (x ∷ xs) (y ∷ ys) (same d p) (lower q) = absurd (omega arith)
at_most_both (x ∷ xs) (y ∷ ys) (same d p) (same e q) = ap₂ ◌∷◌ d (at_most_both xs ys p q)

-- it is false exactly where the second stands at or before the first
pub not-before : (xs ys : List ℕ) → precedes xs ys ≡ false → AtMost ys xs
unfolding precedes
not-before [] [] q = ends
not-before [] (y ∷ ys) q = absurd (true≢false q)
not-before (x ∷ xs) [] q = ends
not-before (x ∷ xs) (y ∷ ys) q =
    by_test (λ (t : Bool). t ≡ false → AtMost (y ∷ ys) (x ∷ xs)) (eqb x y) (precedes xs ys) (ltb x y)
    (λ e r. same (sym (eqb-true x y e)) (not-before xs ys r))
    (λ e r. lower (below y x (ltb-false x y r) (eqb-false x y e)))
    q
  where
    below : (m n : ℕ) → m ≤ n → (n ≡ m → ⊥) → m < n
    below m n l d = omega arith

pub at_most_not : (xs ys : List ℕ) → AtMost ys xs → precedes xs ys ≡ false
unfolding precedes
at_most_not [] (y ∷ ys) p = elim p [ ]
at_most_not [] [] p = refl
at_most_not (x ∷ xs) [] p = refl
at_most_not (x ∷ xs) (y ∷ ys) (lower p) = rw (ne_eqb x y (λ e. omega arith)) (le-ltb x y (omega arith))
at_most_not (x ∷ xs) (y ∷ ys) (same e p) = rw (eq-eqb x y (sym e)) (at_most_not xs ys p)

before_at_most : (xs ys : List ℕ) → precedes xs ys ≡ true → AtMost xs ys
unfolding precedes
before_at_most [] ys q = ends
before_at_most (x ∷ xs) [] q = absurd (true≢false (sym q))
before_at_most (x ∷ xs) (y ∷ ys) q =
    by_test (λ (t : Bool). t ≡ true → AtMost (x ∷ xs) (y ∷ ys)) (eqb x y) (precedes xs ys) (ltb x y)
    (λ e r. same (eqb-true x y e) (before_at_most xs ys r))
    (λ e r. lower (ltb-true x y r))
    q

-- it goes by the first number, and where that is the same by the rest
module _ (x y : ℕ) (xs ys : List ℕ) where
  pub precedes_lower : x < y → precedes (x ∷ xs) (y ∷ ys) ≡ true
  unfolding precedes
  precedes_lower l = rw (ne_eqb x y (λ e. omega arith)) (lt-ltb x y l)

  pub precedes_same : x ≡ y → precedes xs ys ≡ true → precedes (x ∷ xs) (y ∷ ys) ≡ true
  unfolding precedes
  precedes_same e q = rw (eq-eqb x y e) q

  pub precedes_either : precedes (x ∷ xs) (y ∷ ys) ≡ true → (x < y) ⊎ ((x ≡ y) × (precedes xs ys ≡ true))
  unfolding precedes
  precedes_either q =
      by_test (λ (t : Bool). t ≡ true → (x < y) ⊎ ((x ≡ y) × (precedes xs ys ≡ true))) (eqb x y) (precedes xs ys) (ltb x y)
      (λ e r. inr (eqb-true x y e, r))
      (λ e r. inl (ltb-true x y r))
      q

-- lists of one number
pub one_number : (x y : ℕ) → precedes (x ∷ []) (y ∷ []) ≡ ltb x y
unfolding precedes
one_number x y = by_test (λ (t : Bool). t ≡ ltb x y) (eqb x y) false (ltb x y) (λ e. sym (le-ltb x y (let q = eqb-true x y e in omega arith))) (λ e. refl)

pub not_itself : (xs : List ℕ) → precedes xs xs ≡ false
not_itself xs = at_most_not xs xs (at_most_itself xs)

-- two that go before neither the other are the same
pub neither_before : (xs ys : List ℕ) → precedes xs ys ≡ false → precedes ys xs ≡ false → xs ≡ ys
neither_before xs ys p q = at_most_both xs ys (not-before ys xs q) (not-before xs ys p)

-- ---- an order, as the search for the first needs it

pub record Order (goes : Entry → Entry → Bool) : Type 0 where
  pub one_way : (a b : Entry) → goes a b ≡ true → goes b a ≡ false
  pub onward : (a b c : Entry) → goes a b ≡ false → goes b c ≡ false → goes a c ≡ false

-- by any numbers of an entry
pub numbers_order : (numbers : Entry → List ℕ) → Order (λ a b. precedes (numbers a) (numbers b))
numbers_order numbers = record {
  one_way = λ a b q. at_most_not (numbers b) (numbers a) (before_at_most (numbers a) (numbers b) q);
  onward = λ a b c p q. at_most_not (numbers a) (numbers c) (at_most_trans (numbers c) (numbers b) (numbers a) (not-before (numbers b) (numbers c) q) (not-before (numbers a) (numbers b) p));
}

-- for ask and 41, for 42, and for a report
abbrev pub by_service : List Node → Entry → List ℕ
by_service nodes e = e.start.0 ∷ (rank_at nodes e ∷ identity_of e)

abbrev pub by_time : (Entry → ℕ) → Entry → List ℕ
by_time time e = time e ∷ identity_of e

pub starts_order : (nodes : List Node) → Order (starts_before nodes)
starts_order nodes = numbers_order (by_service nodes)

pub ends_order : Order ends_before
ends_order = numbers_order (by_time (λ e. e.end.0))

pub report_order : Order by_start
report_order = numbers_order (by_time (λ e. e.start.0))

-- ---- by whichever of them, entries with the same numbers are of one node

-- the numbers of an entry with its position and node among them
abbrev pub Telling : (Entry → List ℕ) → Type 0
Telling numbers = (a b : Entry) → numbers a ≡ numbers b → SameNode a b

pub service_telling : (nodes : List Node) → Telling (by_service nodes)
service_telling nodes a b q = (ap (λ (l : List ℕ). get_or l 2 0) q, ap (λ (l : List ℕ). get_or l 3 0) q)

pub time_telling : (time : Entry → ℕ) → Telling (by_time time)
time_telling time a b q = (ap (λ (l : List ℕ). get_or l 1 0) q, ap (λ (l : List ℕ). get_or l 2 0) q)
