-- Placing entries in one scan: the places passed are as they will be, and the rest of the entries goes into the rest of the places.
use Rattle.std.specs.Prelude.{◌≡◌, refl, Bool, true, false, List, [], ◌∷◌, ◌++◌, ℕ, suc, ◌+◌, ◌≤◌, ◌<◌, length, get_or, take, drop, set}
use Rattle.std.proofs.Common.{sym, ◌∙◌, ap, append_assoc, arith, add-one, take-append-drop, drop_of_length-le, length-set, take-suc, drop-cons, take-suc-set, drop-set-lt}
use Rattle.std.proofs.Math.Decide.{dec_lt}
use Rattle.run_window.specs.declared.Entry.{Entry}
use Rattle.run_window.specs.Window.{is_free, placed, vacancies}
use Rattle.run_window.proofs.Laws.Placed.{placed_none, placed_first, placed_past, vacant_none, vacant_first, vacant_past}

-- the places before `at` as they are, and the entries in the free ones from there on
abbrev placed_from : ℕ → List Entry → List Entry → List Entry
placed_from at w es = take at w ++ placed (drop at w) es

from_spent : (at : ℕ) (w : List Entry) → placed_from at w [] ≡ w
from_spent at w = rw (placed_none (drop at w)) (take-append-drop at w)

-- ---- one place further

module _ (w : List Entry) (d : Entry) (at : ℕ) (h : at < length w) where
  from_held : (es : List Entry) {b : Bool} → b ≡ is_free (get_or w at d).phase → b ≡ false → placed_from at w es ≡ placed_from (at + 1) w es
  from_held es e f =
      rw (add-one, take-suc w at d, append_assoc, drop-cons w at d)
      (ap (λ (l : List Entry). take at w ++ l) (placed_past (get_or w at d) (drop (suc at) w) es (sym e ∙ f)))

  from_free : (x : Entry) (es : List Entry) {b : Bool} → b ≡ is_free (get_or w at d).phase → b ≡ true
      → placed_from at w (x ∷ es) ≡ placed_from (at + 1) (set w at x) es
  from_free x es e f =
      rw (add-one, take-suc-set w at x, append_assoc, drop-set-lt (suc at) w at x (omega arith), drop-cons w at d)
      (ap (λ (l : List Entry). take at w ++ l) (placed_first (get_or w at d) (drop (suc at) w) x es (sym e ∙ f)))

  -- the free places from there on
  room_held : {b : Bool} → b ≡ is_free (get_or w at d).phase → b ≡ false → vacancies (drop at w) ≡ vacancies (drop (at + 1) w)
  room_held e f = rw (add-one, drop-cons w at d) (vacant_past (get_or w at d) (drop (suc at) w) (sym e ∙ f))

  room_free : (x : Entry) {b : Bool} → b ≡ is_free (get_or w at d).phase → b ≡ true → vacancies (drop at w) ≡ suc (vacancies (drop (at + 1) (set w at x)))
  room_free x e f =
      rw (add-one, drop-set-lt (suc at) w at x (omega arith), drop-cons w at d) (vacant_first (get_or w at d) (drop (suc at) w) (sym e ∙ f))

-- ---- a scan that stores each entry in the next free place

-- the entries es are put into the window v: `next` of them are stored, below place `at`, the window is w by now, and the places
-- from there on have room for the others
pub record Placing (v es w : List Entry) (at next : ℕ) : Type 0 where
  pub long : length w ≡ length v
  pub rest : placed v es ≡ placed_from at w (drop next es)
  pub room : length es ≤ next + vacancies (drop at w)

pub placing_starts : (v es : List Entry) → length es ≤ vacancies v → Placing v es v 0 0
placing_starts v es h = record { long = refl; rest = refl; room = omega (arith, h) }

module _ (v es w : List Entry) (at next : ℕ) (p : Placing v es w at next) where
  pub placing_within : next < length es → at < length w
  placing_within h = elim (dec_lt at (length w)) [
    | yes l ↦ l
    | no l ↦ absurd (omega (arith, p.room, ap vacancies (drop_of_length-le w {i = at} (omega arith)) ∙ vacant_none))
  ]

  pub placing_held : (d : Entry) → next < length es → {b : Bool} → b ≡ is_free (get_or w at d).phase → b ≡ false → Placing v es w (at + 1) next
  placing_held d h e f =
      let l = placing_within h in
      record { long = p.long; rest = p.rest ∙ from_held w d at l (drop next es) e f; room = omega (arith, p.room, room_held w d at l e f) }

  pub placing_free : (d x : Entry) → next < length es → drop next es ≡ x ∷ drop (next + 1) es → {b : Bool} → b ≡ is_free (get_or w at d).phase → b ≡ true
      → Placing v es (set w at x) (at + 1) (next + 1)
  placing_free d x h n e f =
      let l = placing_within h in
      record {
        long = length-set w at x ∙ p.long;
        rest = p.rest ∙ (ap (placed_from at w) n ∙ from_free w d at l x (drop (next + 1) es) e f);
        room = omega (arith, p.room, room_free w d at l x e f);
      }

  pub placing_done : length es ≤ next → w ≡ placed v es
  placing_done h = sym (p.rest ∙ (ap (placed_from at w) (drop_of_length-le es h) ∙ from_spent at w))
