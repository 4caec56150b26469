-- One field's faults by the order, a good number within its limits, and arrays filled from the front.
use Rattle.std.specs.Prelude.{◌≡◌, refl, Bool, true, false, cond, List, [], ◌∷◌, ℕ, zero, suc, ◌+◌, ◌≤◌, ◌<◌}
use Rattle.std.proofs.Common.{sym, ◌∙◌, zero-add, arith, get_or-set_same, get_or-set_other, le-leb, le-ltb}
use Rattle.std.proofs.Math.Decide.{dec_le, dec_lt}
use lib.ListN.{length, get_or, set}
use Rattle.std.proofs.lemmas.List.Edits.{sets}
use Rattle.std.proofs.lemmas.Bool.{lt-leb}
use Rattle.basis.specs.Lists.{Among}
use Rattle.basis.specs.Parts.{part}
use Rattle.basis.proofs.Laws.PartsHold.{among_part, part_among}
use Rattle.format.specs.Format.{◌when◌, good, fault, first}
use Rattle.plan_file.specs.PlanFile.{fault_order, outside}

pub two : (t : Bool) → first fault_order (2 when t) ≡ cond t (fault 2) good
two true = refl
two false = refl

pub three : (t : Bool) → first fault_order (3 when t) ≡ cond t (fault 3) good
three true = refl
three false = refl

pub four : (t : Bool) → first fault_order (4 when t) ≡ cond t (fault 4) good
four true = refl
four false = refl

pub eight : (t : Bool) → first fault_order (8 when t) ≡ cond t (fault 8) good
eight true = refl
eight false = refl

-- a good number is within its limits
pub inside : (n low below x : ℕ) → ((t : Bool) → first fault_order (n when t) ≡ cond t (fault n) good) → first fault_order (n when outside low below x) ≡ good → (low ≤ x) × (x < below)
inside n low below x told g =
    elim (dec_le low x) [
      | no l ↦
          let d : fault n ≡ good = sym (rw (told (outside low below x), lt-leb low x (omega arith))) ∙ g in
          absurd (let z : ◌≡◌ {A = ℕ} 0 1 = cc in omega arith)
      | yes l ↦
          elim (dec_lt x below) [
            | yes u ↦ (l, u)
            | no u ↦
                let d : fault n ≡ good = sym (rw (told (outside low below x), le-leb low x l, le-ltb x below (omega arith))) ∙ g in
                absurd (let z : ◌≡◌ {A = ℕ} 0 1 = cc in omega arith)
          ]
    ]

-- the first `count` of a list are below `size` iff each of its members is
pub below_among : (size count : ℕ) (xs : List ℕ) → ((i : ℕ) → i < count → get_or xs i 0 < size) → (m : ℕ) → Among m (part 0 xs 0 count) → m < size
below_among size count xs f m a =
    let s = among_part 0 xs 0 count m a in
    let e : m ≡ get_or xs s.0 0 = rw zero-add at s.2 in
    let l = f s.0 s.1 in
    omega arith

pub among_below : (size count : ℕ) (xs : List ℕ) → ((m : ℕ) → Among m (part 0 xs 0 count) → m < size) → (i : ℕ) → i < count → get_or xs i 0 < size
among_below size count xs f i l =
    let a : Among (get_or xs i 0) (part 0 xs 0 count) = rw zero-add at (part_among 0 xs 0 count i l) in
    f (get_or xs i 0) a

-- arrays filled from the front
module _ {A : Type 0} (d : A) where
  pub filled_before : (xs l : List A) (i k : ℕ) → k < i → get_or (sets l i xs) k d ≡ get_or l k d
  filled_before [] l i k h = refl
  filled_before (x ∷ xs) l i k h = filled_before xs (set l i x) (suc i) k (omega arith) ∙ get_or-set_other l i k x d (λ e. omega arith)

  pub filled_at : (xs l : List A) (i k : ℕ) → k < length xs → i + length xs ≤ length l → get_or (sets l i xs) (i + k) d ≡ get_or xs k d
  filled_at [] l i k h w = absurd (omega arith)
  filled_at (x ∷ xs) l i zero h w =
      let e : i + 0 ≡ i = omega arith in
      rw e (filled_before xs (set l i x) (suc i) i (omega arith) ∙ get_or-set_same l i x d (omega arith))
  filled_at (x ∷ xs) l i (suc k) h w =
      let e : i + suc k ≡ suc i + k = omega arith in
      rw e (filled_at xs (set l i x) (suc i) k (omega arith) (omega (arith, lib.ListN.length-set l i x)))
