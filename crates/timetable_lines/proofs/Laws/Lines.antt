-- How long each line can be, and the line of availabilities taken apart.
use Rattle.std.specs.Prelude.{◌≡◌, refl, List, [], ◌∷◌, ◌++◌, map, ℕ, suc, ◌+◌, ◌-◌, ◌*◌, ◌≤◌, ◌<◌, length, get_or}
use Rattle.std.proofs.Common.{ap, arith}
use Rattle.std.proofs.Math.ListN.{length-append}
use Rattle.basis.specs.Parts.{part}
use Rattle.basis.proofs.Laws.PartsHold.{length_part}
use Rattle.time.specs.declared.Specified.{Specified}
use Rattle.times.specs.Times.{specified}
use Rattle.times.specs.declared.Progress.{Progress}
use Rattle.run_window.specs.declared.Entry.{Entry}
use Rattle.wire.specs.Puts.{Puts}
use Rattle.wire.proofs.Laws.Puts.{puts_join}
use Rattle.timetable_text.specs.Text.{decimal, line, space, newline, word_free}
use Rattle.timetable_text.proofs.Laws.Digits.{decimal_length, digits_within}
use Rattle.timetable_lines.specs.Lines.{header, row, rows, free_of, ended_of, waiting_of, refused}
use Rattle.timetable_lines.specs.Inner.Lines.{spaced, Remains}

-- ---- the line of availabilities

pub line_spaced : (w : List ℕ) (ts : List Specified) → line (w ∷ map (λ (t : Specified). decimal t.0) ts) ≡ w ++ spaced ts
unfolding line
line_spaced w [] = refl
line_spaced w (t ∷ ts) = ap (λ (l : List ℕ). w ++ (space ∷ l)) (line_spaced (decimal t.0) ts)

pub free_is : (resources : ℕ) (g : Progress) → free_of resources g ≡ word_free ++ spaced (part (specified 0) g.available 0 resources)
unfolding free_of
free_is resources g = line_spaced word_free (part (specified 0) g.available 0 resources)

-- the times from place i on
module _ (ts : List Specified) (n i : ℕ) where
  pub spaced_turn : i < n
      → spaced (part (specified 0) ts i (n - i))
      ≡ (space ∷ decimal (get_or ts i (specified 0)).0) ++ spaced (part (specified 0) ts (i + 1) (n - (i + 1)))
  spaced_turn h = let e : n - i ≡ suc (n - (i + 1)) = omega arith in rw e

  pub spaced_end : n ≤ i → spaced (part (specified 0) ts i (n - i)) ≡ newline ∷ []
  spaced_end h = let e : n - i ≡ 0 = omega arith in rw e

pub remains_all : (start : List ℕ) (at : ℕ) (whole rest : List ℕ) → rest ≡ whole → Remains start at whole start at rest
remains_all start at whole rest e after next p = rw e at p

pub remains_less : (start : List ℕ) (at : ℕ) (whole now now' : List ℕ) (off off' : ℕ) (rest xs ys : List ℕ) → rest ≡ xs ++ ys
    → Remains start at whole now off rest → Puts now off xs now' off' → Remains start at whole now' off' ys
remains_less start at whole now now' off off' rest xs ys e r p after next q = r after next (rw e (puts_join p q))

-- ---- lengths

pub spaced_length : (ts : List Specified) → length (spaced ts) ≤ 21 * length ts + 1
spaced_length [] = omega arith
spaced_length (t ∷ ts) = rw length-append (omega (arith, decimal_length t.0, spaced_length ts))

pub header_length : length header ≤ 33
unfolding line
header_length = omega arith

pub row_length : (e : Entry) → length (row e) ≤ 105
unfolding line
row_length e =
    simp length-append
    (omega (
      arith,
      decimal_length e.position,
      decimal_length e.activity,
      decimal_length e.node,
      decimal_length e.start.0,
      decimal_length e.end.0,
    ))

-- where the position has four bytes, the activity and the node one
pub row_within : (e : Entry) → e.position < 4294967296 → e.activity < 256 → e.node < 256 → length (row e) ≤ 61
unfolding line
row_within e p a n =
    simp length-append
    (omega (
      arith,
      digits_within 9 20 e.position (omega arith),
      digits_within 2 20 e.activity (omega arith),
      digits_within 2 20 e.node (omega arith),
      decimal_length e.start.0,
      decimal_length e.end.0,
    ))

pub rows_length : (es : List Entry) → length (rows es) ≤ 105 * length es
unfolding rows
rows_length [] = omega arith
rows_length (e ∷ es) = rw length-append (omega (arith, row_length e, rows_length es))

module _ (resources : ℕ) (g : Progress) (few : resources ≤ 16) where
  pub free_length : length (free_of resources g) ≤ 341
  free_length =
      let ts = part (specified 0) g.available 0 resources in
      rw (free_is resources g)
      (omega (arith, spaced_length ts, length_part (specified 0) g.available 0 resources))

  pub ended_length : length (ended_of resources g) ≤ 366
  unfolding line
  ended_length = simp length-append (omega (arith, free_length, decimal_length g.state))

  pub waiting_length : (e : ℕ) → length (waiting_of resources g e) ≤ 389
  unfolding line
  waiting_length e = simp length-append (omega (arith, free_length, decimal_length g.state, decimal_length e))

pub refused_length : (number place : ℕ) → length (refused number place) ≤ 50
unfolding line
refused_length number place = simp length-append (omega (arith, decimal_length number, decimal_length place))
