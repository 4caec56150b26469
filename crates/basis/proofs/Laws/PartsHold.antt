-- The used part of an array: `part d l i k` are the k elements from place i on, d past the end.
use Rattle.std.specs.Prelude.{◌≡◌, refl, List, ℕ, zero, suc, ◌+◌, ◌<◌, length, get_or}
use Rattle.std.proofs.Common.{ap, ◌∙◌, subst, arith, inl, inr}
use Rattle.basis.specs.Lists.{Among}
use Rattle.basis.specs.Parts.{part}

pub length_part : {A : Type 0} (d : A) (l : List A) (i k : ℕ) → length (part d l i k) ≡ k
length_part d l i zero = refl
length_part d l i (suc k) = ap suc (length_part d l (i + 1) k)

-- element j of the part is element i + j of the array
pub get_d_part : {A : Type 0} (d : A) (l : List A) (i k j : ℕ) → j < k → get_or (part d l i k) j d ≡ get_or l (i + j) d
get_d_part d l i zero j h = absurd (omega arith)
get_d_part d l i (suc k) zero h = let e : i ≡ i + 0 = omega arith in ap (λ (n : ℕ). get_or l n d) e
get_d_part d l i (suc k) (suc j) h =
    let e : i + 1 + j ≡ i + suc j = omega arith in
    get_d_part d l (i + 1) k j (omega arith) ∙ ap (λ (n : ℕ). get_or l n d) e

-- a member of the part stands at some place of it
pub among_part : {A : Type 0} (d : A) (l : List A) (i k : ℕ) (x : A) → Among x (part d l i k) → (j : ℕ) × (j < k) × (x ≡ get_or l (i + j) d)
among_part d l i zero x h = absurd h
among_part d l i (suc k) x (inl e) =
    let z : i ≡ i + 0 = omega arith in
    (0, omega arith, e ∙ ap (λ (n : ℕ). get_or l n d) z)
among_part d l i (suc k) x (inr h) =
    let f = among_part d l (i + 1) k x h in
    let z : i + 1 + f.0 ≡ i + suc f.0 = omega arith in
    (suc f.0, omega (arith, f.1), f.2 ∙ ap (λ (n : ℕ). get_or l n d) z)

pub part_among : {A : Type 0} (d : A) (l : List A) (i k j : ℕ) → j < k → Among (get_or l (i + j) d) (part d l i k)
part_among d l i zero j h = absurd (omega arith)
part_among d l i (suc k) zero h = let z : i + 0 ≡ i = omega arith in inl (ap (λ (n : ℕ). get_or l n d) z)
part_among d l i (suc k) (suc j) h =
    let z : i + 1 + j ≡ i + suc j = omega arith in
    inr (subst (λ (n : ℕ). Among (get_or l n d) (part d l (i + 1) k)) z (part_among d l (i + 1) k j (omega arith)))
