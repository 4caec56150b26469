-- Words as sets: one lies within another iff `|` adds nothing, and two meet iff `&` is not 0. Assumes nothing.
use mathlib.Core.Path.{◌≡◌, refl, sym, ap, ap₂, ◌∙◌, subst}
use mathlib.Core.Bool.{not}
use mathlib.Core.Logic.{inl, ◌↔◌}
use Prim.Native.Nat.{ℕ, zero, suc, ◌+◌, ◌*◌, ◌/◌, ◌%◌, ◌<◌, max}
use native.Mathlib.Nat.{div-one, div-add-mod'}
use native.Mathlib.Decide.{ℕ_discrete}
use native.Mathlib.Omega.{arith}
use lib.Arith.{bin_ind}
use lib.Bits.{bit_or, bit_and, or_step, or_zero_l}
use lib.Dec.{eqb}
use lib.Pow.{shr-shr}
use Rattle.basis.specs.Inner.Tells.{Tells}
use Rattle.basis.proofs.Laws.Tells.{tells_iff, tells_not, tells_eqb}
use Rattle.activity.specs.Inner.Bits.{Bit}
use Rattle.activity.proofs.Laws.Bits.{or_iff, and_iff, no_bit}

half_bit : (w j : ℕ) → Bit (w / 2) j ↔ Bit w (1 + j)
half_bit w j = let e = ap (λ (x : ℕ). x % 2) (shr-shr w 1 j) in (λ h. sym e ∙ h, λ h. e ∙ h)

low_bit : (w : ℕ) → Bit w 0 ↔ (w % 2 ≡ 1)
low_bit w = let e = ap (λ (x : ℕ). x % 2) (div-one w) in (λ h. sym e ∙ h, λ h. e ∙ h)

top : (x y : ℕ) → y < 2 → x < 2 → (x ≡ 1 → y ≡ 1) → max x y ≡ y
top zero y h k f = omega arith
top (suc zero) y h k f = let e = f refl in omega arith
top (suc (suc x)) y h k f = absurd (omega arith)

contained : (w v : ℕ) → ((j : ℕ) → Bit w j → Bit v j) → bit_or w v ≡ v
contained =
    bin_ind (λ (w : ℕ). (v : ℕ) → ((j : ℕ) → Bit w j → Bit v j) → bit_or w v ≡ v) (λ v h. or_zero_l v)
    (λ w ih v h.
    let a = ih (v / 2) (λ j b. (half_bit v j).1 (h (1 + j) ((half_bit w j).0 b))) in
    let m = top (w % 2) (v % 2) (omega arith) (omega arith) (λ e. (low_bit v).0 (h 0 ((low_bit w).1 e))) in
    or_step w v ∙ ap₂ (λ (x y : ℕ). x * 2 + y) a m ∙ div-add-mod' v 2)

pub tells_within : (w v : ℕ) → Tells (eqb (bit_or w v) v) ((m : ℕ) → Bit w m → Bit v m)
tells_within w v =
    tells_iff (λ e m b. subst (λ (x : ℕ). Bit x m) e ((or_iff w v m).1 (inl b)), contained w v) (tells_eqb (bit_or w v) v)

some_bit : (w : ℕ) → (w ≡ 0 → ⊥) → (j : ℕ) × Bit w j
some_bit =
    bin_ind (λ (w : ℕ). (w ≡ 0 → ⊥) → (j : ℕ) × Bit w j) (λ h. absurd (h refl))
    (λ w ih h. elim (ℕ_discrete (w % 2) 1) [
      | yes e ↦ (0, (low_bit w).1 e)
      | no d ↦ let s = ih (λ e. h (omega arith)) in (1 + s.0, (half_bit w s.0).0 s.1)
    ])

pub tells_meet : (w v : ℕ) → Tells (not (eqb (bit_and w v) 0)) ((m : ℕ) × Bit w m × Bit v m)
tells_meet w v =
    tells_iff (
      λ d. let s = some_bit (bit_and w v) d in let b = (and_iff w v s.0).0 s.1 in (s.0, b.0, b.1),
      λ s e. no_bit s.0 (subst (λ (x : ℕ). Bit x s.0) e ((and_iff w v s.0).1 (s.1, s.2))),
    )
    (tells_not (tells_eqb (bit_and w v) 0))

-- a word has a bit iff it is not 0
pub tells_any_bit : (w : ℕ) → Tells (not (eqb w 0)) ((m : ℕ) × Bit w m)
tells_any_bit w =
    tells_iff (some_bit w, λ s e. no_bit s.0 (subst (λ (x : ℕ). Bit x s.0) e s.1)) (tells_not (tells_eqb w 0))
