-- Parts of a list: two that agree, one place more, after one place was set, and what is left of n places from place i on.
use Rattle.std.specs.Prelude.{◌≡◌, refl, ◌⊎◌, List, [], ◌∷◌, ◌++◌, ℕ, zero, suc, ◌+◌, ◌-◌, ◌≤◌, ◌<◌, length, get_or, set}
use Rattle.std.proofs.Common.{sym, ap, ap₂, ◌∙◌, inl, inr, arith, get_or-set_other, get_or-set_same}
use Rattle.basis.specs.Parts.{part}

-- two parts that agree place by place
pub part_same : {A : Type 0} (d : A) (l m : List A) (k i j : ℕ) → ((n : ℕ) → n < k → get_or l (i + n) d ≡ get_or m (j + n) d) → part d l i k ≡ part d m j k
part_same d l m zero i j h = refl
part_same d l m (suc k) i j h =
    let z : i ≡ i + 0 = omega arith in
    let y : j ≡ j + 0 = omega arith in
    ap₂ (λ x xs. x ∷ xs) (ap (λ (n : ℕ). get_or l n d) z ∙ h 0 (omega arith) ∙ sym (ap (λ (n : ℕ). get_or m n d) y))
    (part_same d l m k (i + 1) (j + 1)
    (λ n q. let u : i + 1 + n ≡ i + suc n = omega arith in
    let v : j + 1 + n ≡ j + suc n = omega arith in
    ap (λ (z : ℕ). get_or l z d) u ∙ h (suc n) (omega arith) ∙ sym (ap (λ (z : ℕ). get_or m z d) v)))

-- a place outside the part
pub part_set_apart : {A : Type 0} (d : A) (l : List A) (i k j : ℕ) (x : A) → (j < i) ⊎ (i + k ≤ j) → part d (set l j x) i k ≡ part d l i k
part_set_apart d l i k j x h =
    part_same d (set l j x) l k i i (λ n q. get_or-set_other l j (i + n) x d (λ e. elim h [ inl u ↦ omega arith | inr u ↦ omega arith ]))

-- one place more
pub part-more : {A : Type 0} (d : A) (l : List A) (k i : ℕ) → part d l i (k + 1) ≡ part d l i k ++ (get_or l (i + k) d ∷ [])
part-more d l k i = let z : k + 1 ≡ suc k = omega arith in ap (part d l i) z ∙ more k i
  where
    more : (k i : ℕ) → part d l i (suc k) ≡ part d l i k ++ (get_or l (i + k) d ∷ [])
    more zero i = let z : i ≡ i + 0 = omega arith in ap (λ (n : ℕ). get_or l n d ∷ []) z
    more (suc k) i =
        let z : i + 1 + k ≡ i + suc k = omega arith in
        ap (λ xs. get_or l i d ∷ xs) (more k (i + 1) ∙ ap (λ (n : ℕ). part d l (i + 1) k ++ (get_or l n d ∷ [])) z)

-- the place after a part is set
pub part_snoc : {A : Type 0} (d : A) (l : List A) (i k : ℕ) (x : A) → i + k < length l → part d (set l (i + k) x) i (k + 1) ≡ part d l i k ++ (x ∷ [])
part_snoc d l i k x h =
    part-more d (set l (i + k) x) k i
    ∙ ap₂ (λ xs y. xs ++ (y ∷ [])) (part_set_apart d l i k (i + k) x (inr (omega arith))) (get_or-set_same l (i + k) x d h)

-- ---- what is left

-- n - i falls to n - (i + 1)
pub fewer : (i n : ℕ) → i < n → n - i ≡ suc (n - (i + 1))
fewer i n h = omega arith

pub none : (i n : ℕ) → n ≤ i → n - i ≡ 0
none i n h = omega arith

pub part_step : {A : Type 0} (d : A) (l : List A) (i n : ℕ) → i < n → part d l i (n - i) ≡ get_or l i d ∷ part d l (i + 1) (n - (i + 1))
part_step d l i n h = ap (part d l i) (fewer i n h)

pub part_end : {A : Type 0} (d : A) (l : List A) (i n : ℕ) → n ≤ i → part d l i (n - i) ≡ []
part_end d l i n h = ap (part d l i) (none i n h)
