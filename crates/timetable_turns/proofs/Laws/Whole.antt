-- The text of the turns that are left, and the whole text by the input's length. Assumes nothing.
use Rattle.std.specs.Prelude.{◌≡◌, Bool, ltb, length, take, drop, get_or, Option, Some, None, is_some, unwrap_or, option_map}
use Rattle.std.proofs.Math.Path.{refl, ap}
use Rattle.std.proofs.Common.{sym, ◌∙◌, le-leb, ltb-true, ltb-false, drop-cons, drop-drop}
use Rattle.std.proofs.Math.Bool.{true, false, cond}
use mathlib.Core.List.{List, [], ◌∷◌, ◌++◌}
use Prim.Native.Nat.{ℕ, zero, suc, ◌+◌, ◌-◌, ◌*◌, ◌≤◌, ◌<◌}
use native.Mathlib.Omega.{arith}
use Rattle.std.proofs.lemmas.Bool.{lt-leb}
use Rattle.plan.specs.Fault.{number_of}
use Rattle.plan.specs.declared.Fault.{Fault}
use Rattle.plan.specs.declared.Plan.{Plan}
use Rattle.times.specs.declared.Progress.{Progress}
use Rattle.timetable_lines.specs.Lines.{refused}
use Rattle.timetable_turns.specs.declared.Place.{Place}
use Rattle.timetable_turns.specs.Inner.Turn.{OneTurn, turn_of, head_of, read_after, rest_of, left_after, turns_from}
use Rattle.timetable_turns.specs.Timetable.{text_of_plan, timetable_of}
use Rattle.timetable_turns.specs.Inner.Whole.{left_text}

-- ---- the next byte

pub drop_past : (n : ℕ) (l : List ℕ) → length l ≤ n → drop n l ≡ []
drop_past zero [] h = refl
drop_past (suc n) [] h = refl
drop_past zero (x ∷ l) h = absurd (omega arith)
drop_past (suc n) (x ∷ l) h = drop_past n l (omega arith)

rest_drop : (n : ℕ) (l : List ℕ) → rest_of (drop n l) ≡ drop (suc n) l
rest_drop zero [] = refl
rest_drop zero (x ∷ l) = refl
rest_drop (suc n) [] = refl
rest_drop (suc n) (x ∷ l) = rest_drop n l

pub head_there : (n : ℕ) (l : List ℕ) → n < length l → head_of (drop n l) ≡ Some (get_or l n 0)
head_there n l h = ap head_of (drop-cons l n 0 h)

pub head_none : (n : ℕ) (l : List ℕ) → length l ≤ n → head_of (drop n l) ≡ None
head_none n l h = ap head_of (drop_past n l h)

-- as std looks an element up
pub head_looked : {B : Type 0} (f : B → ℕ) (r : Option B) (n : ℕ) (l : List ℕ) → is_some r ≡ ltb n (length l) → ((d : ℕ) → unwrap_or (option_map f r) d ≡ get_or l n d) → option_map f r ≡ head_of (drop n l)
head_looked f None n l e g = sym (head_none n l (ltb-false n (length l) (sym e)))
head_looked f (Some b) n l e g = ap Some (g 0) ∙ sym (head_there n l (ltb-true n (length l) (sym e)))

-- ---- one turn

abbrev place : ℕ → ℕ → ℕ → Progress → Place
place at read left g = record { at = at; read = read; left = left; progress = g }

module _ (p : Plan) (start : ℕ) (input : List ℕ) (w : Place) where
  abbrev os : List ℕ
  os = drop (start + w.read) input

  left_read : (heard : Bool) → cond heard (rest_of os) os ≡ drop (start + cond heard (w.read + 1) w.read) input
  left_read true = rest_drop (start + w.read) input ∙ (let e : suc (start + w.read) ≡ start + (w.read + 1) = omega arith in ap (λ (n : ℕ). drop n input) e)
  left_read false = refl

  -- the text of the turns that are left is that of the next one, and of those that it leaves
  pub left_turn : (x : OneTurn) → x ≡ turn_of p w.progress w.read (head_of (drop (start + w.read) input)) → 0 < w.left → (at : ℕ)
      → left_text p start input w ≡ x.text ++ left_text p start input (place at (cond x.heard (w.read + 1) w.read) (cond x.closed 0 (w.left - 1)) x.progress)
  unfolding turns_from
  left_turn x is more at =
      let e : w.left ≡ suc (w.left - 1) = omega arith in
      ap (λ (n : ℕ). turns_from p n w.read os w.progress) e
      ∙ ap (λ (y : OneTurn). y.text ++ cond y.closed [] (turns_from p (w.left - 1) (read_after y w.read) (left_after y os) y.progress)) (sym is)
      ∙ ap (λ (l : List ℕ). x.text ++ l) (go x.closed)
    where
      go : (b : Bool) → cond b [] (turns_from p (w.left - 1) (read_after x w.read) (left_after x os) x.progress) ≡ turns_from p (cond b 0 (w.left - 1)) (cond x.heard (w.read + 1) w.read) (drop (start + cond x.heard (w.read + 1) w.read) input) x.progress
      go true = refl
      go false = ap (λ (l : List ℕ). turns_from p (w.left - 1) (read_after x w.read) l x.progress) (left_read x.heard)

-- ---- the whole input

pub whole_none : (input : List ℕ) → length input < 2 → timetable_of input ≡ refused (number_of Fault.Ends) 0
unfolding timetable_of
whole_none [] h = refl
whole_none (a ∷ []) h = refl
whole_none (a ∷ b ∷ rest) h = absurd (omega arith)

pub whole_cut : (input : List ℕ) (n : ℕ) → 2 ≤ length input → n ≡ get_or input 0 0 + 256 * get_or input 1 0 → length input - 2 < n → timetable_of input ≡ refused (number_of Fault.Ends) (length input - 2)
unfolding timetable_of
whole_cut [] n h e k = absurd (omega arith)
whole_cut (a ∷ []) n h e k = absurd (omega arith)
whole_cut (a ∷ b ∷ rest) n h e k =
    ap (λ (c : Bool). cond c (text_of_plan (take (a + 256 * b) rest) (drop (a + 256 * b) rest)) (refused (number_of Fault.Ends) (length rest))) (lt-leb (a + 256 * b) (length rest) (omega arith))
    ∙ (let z : length rest ≡ length (a ∷ b ∷ rest) - 2 = omega arith in ap (refused (number_of Fault.Ends)) z)

pub whole_plan : (input : List ℕ) (n : ℕ) → 2 ≤ length input → n ≡ get_or input 0 0 + 256 * get_or input 1 0 → n ≤ length input - 2 → timetable_of input ≡ text_of_plan (take n (drop 2 input)) (drop (2 + n) input)
unfolding timetable_of
whole_plan [] n h e k = absurd (omega arith)
whole_plan (a ∷ []) n h e k = absurd (omega arith)
whole_plan (a ∷ b ∷ rest) n h e k =
    ap (λ (c : Bool). cond c (text_of_plan (take (a + 256 * b) rest) (drop (a + 256 * b) rest)) (refused (number_of Fault.Ends) (length rest))) (le-leb (a + 256 * b) (length rest) (omega arith))
    ∙ ap (λ (m : ℕ). text_of_plan (take m rest) (drop m rest)) (sym e)
    ∙ ap (text_of_plan (take n rest)) (drop-drop n 2 (a ∷ b ∷ rest))
