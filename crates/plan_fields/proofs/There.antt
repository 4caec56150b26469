-- What the answers of the crate wire say of the bytes, one law at each width; and the power of two that bounds the
-- final-state bits.
use mathlib.Core.Path.{◌≡◌, sym, ◌∙◌}
use mathlib.Core.List.{List}
use Prim.Native.Nat.{ℕ, ◌+◌, ◌*◌, ◌/◌, ◌%◌, ◌^◌, ◌≤◌, ◌<◌}
use native.Mathlib.Nat.{div-eq_of_lt, pow-le-pow_right, div-add-mod, mod-lt, lt_of_lt_of_le}
use native.Mathlib.Decide.{dec_lt}
use native.Mathlib.Omega.{arith}
use lib.ListN.{length}
use lib.Dec.{ltb, eqb}
use lib.Pow.{pow_pos}
use borrow.Author.Tests.{lt-ltb, le-ltb, eq-eqb, ne_eqb}
use Rattle.wire.specs.Number.{field_at, number}
use Rattle.wire.proofs.Laws.Fields.{Present, are_there, are_short, short, too_low, too_high, in_range}
use Rattle.plan.specs.declared.Fault.{Fault}
use Rattle.plan.specs.Fields.{found, faulty}
use Rattle.std.specs.Prelude.{Option, Some, None}

module _ (w : ℕ) (b : List ℕ) (at : ℕ) where
  pub there : (x : ℕ) → field_at Some None w b at ≡ Some x → Present w b at x
  there = are_there Some None (λ y e. let z : ◌≡◌ {A = ℕ} 0 1 = cc in omega arith) (λ y z e. cc) w b at

  pub nothing : field_at {A = Option ℕ} Some None w b at ≡ None → length b < at + w
  nothing = are_short Some None (λ y e. let z : ◌≡◌ {A = ℕ} 0 1 = cc in omega arith) (λ y z e. cc) w b at

-- what is answered of a field, by what stands there
module _ (w low below : ℕ) (wrong : Fault) (b : List ℕ) (at : ℕ) where
  pub ended : field_at {A = Option ℕ} Some None w b at ≡ None → faulty Fault.Ends at ≡ number found faulty Fault.Ends w low below wrong b at
  ended e = short found faulty Fault.Ends w low below wrong b at (nothing w b at e)

  module _ (x : ℕ) (e : field_at Some None w b at ≡ Some x) where
    pub below_low : x < low → faulty wrong at ≡ number found faulty Fault.Ends w low below wrong b at
    below_low h = let p = there w b at x e in too_low found faulty Fault.Ends w low below wrong b at x p.is p.fits h

    pub past_most : low ≤ x → below ≤ x → faulty wrong at ≡ number found faulty Fault.Ends w low below wrong b at
    past_most l h = let p = there w b at x e in too_high found faulty Fault.Ends w low below wrong b at x p.is p.fits l h

    pub good : low ≤ x → x < below → found x (at + w) ≡ number found faulty Fault.Ends w low below wrong b at
    good l h = let p = there w b at x e in in_range found faulty Fault.Ends w low below wrong b at x p.is p.fits l h

-- shifting out the bits of the states leaves nothing iff no bit past them stands
shift_some : (x k : ℕ) → 2 ^ k ≤ x → x / 2 ^ k ≡ 0 → ⊥
shift_some x k h e =
    let z : 2 ^ k * 0 + x % 2 ^ k ≡ x = rw e at (div-add-mod x (2 ^ k)) in
    omega (arith, mod-lt x (pow_pos k))

pub shift_none : (x k : ℕ) → eqb (x / 2 ^ k) 0 ≡ ltb x (2 ^ k)
shift_none x k =
    elim (dec_lt x (2 ^ k)) [
      | yes h ↦ eq-eqb _ _ (div-eq_of_lt h) ∙ sym (lt-ltb _ _ h)
      | no h ↦ ne_eqb (x / 2 ^ k) 0 (shift_some x k (omega arith)) ∙ sym (le-ltb x (2 ^ k) (omega arith))
    ]

pub power_most : (x k : ℕ) → x < 2 ^ 64 → 64 ≤ k → x < 2 ^ k
power_most x k h l = lt_of_lt_of_le h (pow-le-pow_right (omega arith) l)
