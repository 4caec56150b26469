-- A loop over the places of a window, from the front, and what the test of a window tells of each place.
-- Assumes nothing.
use Rattle.std.proofs.Math.Path.{◌≡◌, refl, sym, ap}
use Rattle.std.proofs.Common.{◌∙◌, add-one, arith, le_of_suc-le-suc, drop_of_length-le}
use Rattle.std.specs.Prelude.{Bool, ◌&&◌, get_or, drop}
use Rattle.std.proofs.Math.Bool.{true, false}
use mathlib.Core.List.{List, [], ◌∷◌}
use Prim.Native.Nat.{ℕ, zero, suc, ◌+◌, ◌≤◌, ◌<◌}
use Rattle.std.proofs.Math.ListN.{length}
use Rattle.std.proofs.Math.Seq.{drop-cons}
use Rattle.std.specs.List.{list_all}
use Rattle.basis.specs.Inner.Tells.{Tells, holds, fails}
use Rattle.run_window.specs.Window.{vacant}
use Rattle.run_window.specs.declared.Entry.{Entry}
use Rattle.run_limits.specs.Window.{entry_in_limits, window_in_limits}

module _ (activities : ℕ) (sizes : List ℕ) where
  abbrev good : Entry → Bool
  good e = entry_in_limits activities sizes e

  abbrev all : List Entry → Bool
  all w = window_in_limits activities sizes w

  pub window_is_all : (w : List Entry) → list_all good w ≡ all w
  unfolding window_in_limits
  window_is_all [] = refl
  window_is_all (e ∷ es) = ap (λ (b : Bool). good e && b) (window_is_all es)

  -- the rest is the place i, and then the rest past it
  split : (w : List Entry) (i : ℕ) → i < length w → all (drop i w) ≡ good (get_or w i vacant) && all (drop (i + 1) w)
  unfolding window_in_limits
  split w i h = rw (add-one, drop-cons w i vacant)

  pub window_on : (w : List Entry) (i : ℕ) → i < length w → all w ≡ all (drop i w) → good (get_or w i vacant) ≡ true → all w ≡ all (drop (i + 1) w)
  window_on w i h inv e = inv ∙ split w i h ∙ ap (λ (b : Bool). b && all (drop (i + 1) w)) e

  pub window_off : (w : List Entry) (i : ℕ) → i < length w → all w ≡ all (drop i w) → good (get_or w i vacant) ≡ false → all w ≡ false
  window_off w i h inv e = inv ∙ split w i h ∙ ap (λ (b : Bool). b && all (drop (i + 1) w)) e

  pub window_end : (w : List Entry) (i : ℕ) → length w ≤ i → all w ≡ all (drop i w) → all w ≡ true
  unfolding window_in_limits
  window_end w i h inv = inv ∙ ap all (drop_of_length-le w h)

  -- every place of a window in limits is in limits, and no other window's are
  pub tells_window : (w : List Entry) → Tells (all w) ((i : ℕ) → i < length w → good (get_or w i vacant) ≡ true)
  unfolding window_in_limits
  tells_window [] = holds (λ i l. absurd (omega arith))
  tells_window (e ∷ es) = both (good e) refl (all es) (tells_window es)
    where
      both : (b : Bool) → good e ≡ b → (t : Bool) → Tells t ((i : ℕ) → i < length es → good (get_or es i vacant) ≡ true) → Tells (b && t) ((i : ℕ) → i < suc (length es) → good (get_or (e ∷ es) i vacant) ≡ true)
      both false q t h = fails (λ f. let z : false ≡ true = sym q ∙ f 0 (omega arith) in let y : ◌≡◌ {A = ℕ} 0 1 = cc in omega arith)
      both true q t (holds f) = holds (each f)
        where
          each : ((i : ℕ) → i < length es → good (get_or es i vacant) ≡ true) → (i : ℕ) → i < suc (length es) → good (get_or (e ∷ es) i vacant) ≡ true
          each f zero l = q
          each f (suc i) l = f i (le_of_suc-le-suc l)
      both true q t (fails n) = fails (λ f. n (λ i l. f (suc i) (omega arith)))
