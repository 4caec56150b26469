-- Availabilities put into an array of 16 one by one: the first i of them, and zeros.
use mathlib.Core.Path.{◌≡◌, refl, sym, ap, ◌∙◌}
use mathlib.Core.List.{List, [], ◌∷◌, ◌++◌, map}
use Prim.Native.Nat.{ℕ, zero, suc, ◌+◌, ◌-◌, ◌<◌, ◌≤◌}
use native.Mathlib.Nat.{le_of_suc-le-suc, not-suc-le-zero}
use native.Mathlib.Numerals.{add-one}
use native.Mathlib.Omega.{arith}
use lib.ListN.{length, get_or, set, take, replicate}
use lib.Seq.{set_at, append_snoc}
use Rattle.time.specs.declared.Specified.{Specified}
use Rattle.times.specs.Times.{specified}
use Rattle.run_opening.specs.Given.{availabilities}

-- the first i availabilities
abbrev first : List ℕ → ℕ → List Specified
first ts i = map specified (take i ts)

abbrev pub filled : List ℕ → ℕ → List Specified
filled ts i = first ts i ++ replicate (16 - i) (specified 0)

length_first : (ts : List ℕ) (i : ℕ) → i ≤ length ts → length (first ts i) ≡ i
length_first [] zero h = refl
length_first [] (suc i) h = absurd (not-suc-le-zero h)
length_first (x ∷ ts) zero h = refl
length_first (x ∷ ts) (suc i) h = ap suc (length_first ts i (le_of_suc-le-suc h))

first_more : (ts : List ℕ) (i : ℕ) → i < length ts → first ts (suc i) ≡ first ts i ++ (specified (get_or ts i 0) ∷ [])
first_more [] i h = absurd (not-suc-le-zero h)
first_more (x ∷ ts) zero h = refl
first_more (x ∷ ts) (suc i) h = ap (λ (r : List Specified). specified x ∷ r) (first_more ts i (le_of_suc-le-suc h))

first_all : (ts : List ℕ) → first ts (length ts) ≡ map specified ts
first_all [] = refl
first_all (x ∷ ts) = ap (λ (r : List Specified). specified x ∷ r) (first_all ts)

pub filled_more : (ts : List ℕ) (i : ℕ) → i < length ts → i < 16 → set (filled ts i) i (specified (get_or ts i 0)) ≡ filled ts (i + 1)
filled_more ts i l h =
    let v = specified (get_or ts i 0) in
    let rest = replicate (16 - (i + 1)) (specified 0) in
    let z : 16 - i ≡ suc (16 - (i + 1)) = omega arith in
    let k : i ≤ length ts = omega arith in
    ap (λ (n : ℕ). set (first ts i ++ replicate n (specified 0)) i v) z
    ∙ set_at (first ts i) (specified 0) rest v i (length_first ts i k)
    ∙ sym (append_snoc (first ts i) v rest)
    ∙ ap (λ (m : List Specified). m ++ rest) (sym (first_more ts i l))
    ∙ ap (λ (n : ℕ). first ts n ++ rest) (sym (add-one i))

pub filled_all : (ts : List ℕ) → filled ts (length ts) ≡ availabilities ts
filled_all ts = ap (λ (m : List Specified). m ++ replicate (16 - length ts) (specified 0)) (first_all ts)
