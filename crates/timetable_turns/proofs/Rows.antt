-- One turn of the loop over the nodes: the rows that are left are put after those that were put.
use mathlib.Core.Path.{◌≡◌, sym, subst}
use mathlib.Core.Bool.{true, false}
use mathlib.Core.List.{List}
use Prim.Native.Nat.{ℕ, ◌+◌, ◌*◌, ◌≤◌, ◌<◌}
use native.Mathlib.Omega.{arith}
use lib.ListN.{get_or}
use Rattle.basis.specs.Parts.{part}
use Rattle.wire.specs.Puts.{Puts}
use Rattle.wire.proofs.Laws.Puts.{puts_none, puts_join}
use Rattle.plan.specs.Plan.{past_node}
use Rattle.plan.specs.declared.Node.{Node}
use Rattle.times.specs.declared.Schedule.{Schedule}
use Rattle.run_window.specs.declared.Entry.{Entry}
use Rattle.run_path.specs.Path.{is_work, loaded, entries_from}
use Rattle.run_path.proofs.Laws.Collecting.{rest, rest_all, rest_by_lem, rest_none}
use Rattle.timetable_lines.specs.Lines.{row, rows}
use Rattle.timetable_lines.proofs.Laws.Lines.{row_within}

module _ (position a : ℕ) (s : Schedule) (l : List Node) (size : ℕ) where
  -- the rows of the nodes from number n on
  abbrev left : ℕ → List ℕ
  left n = rows (rest position a s l size n)

  -- what puts the rows that are left, puts all of them
  pub record Putting (before : List ℕ) (at : ℕ) (out : List ℕ) (next n : ℕ) : Type 0 where
    pub room : next ≤ at + 61 * n
    pub whole : (m : List ℕ) (k : ℕ) → Puts out next (left n) m k → Puts before at (left 0) m k

  pub putting_starts : (out : List ℕ) (at : ℕ) → Putting out at out at 0
  putting_starts out at = record { room = omega arith; whole = λ m k p. p }

  module _ (before : List ℕ) (at : ℕ) (out : List ℕ) (next n : ℕ) (h : n < size) (w : Putting before at out next n) where
    pub putting_row : (out' : List ℕ) (next' : ℕ) → position < 4294967296 → a < 256 → n < 256 → is_work (get_or l n past_node).kind ≡ true → (x : Entry) → x ≡ loaded position a s n → Puts out next (row x) out' next' → Putting before at out' next' (n + 1)
    unfolding rows
    putting_row out' next' b d f e x ex px =
        let p = subst (λ (y : Entry). Puts out next (row y) out' next') ex px in
        record {
          room = let u = row_within (loaded position a s n) b d f in let v = p.past in let r = w.room in omega arith;
          whole = λ m k q. w.whole m k (subst (λ (es : List Entry). Puts out next (rows es) m k) (sym (rest_by_lem position a s l size n h true e)) (puts_join p q));
        }

    pub putting_none : is_work (get_or l n past_node).kind ≡ false → Putting before at out next (n + 1)
    putting_none e = record {
      room = let x = w.room in omega arith;
      whole = λ m k q. w.whole m k (subst (λ (es : List Entry). Puts out next (rows es) m k) (sym (rest_by_lem position a s l size n h false e)) q);
    }

  pub putting_ends : (before : List ℕ) (at : ℕ) (out : List ℕ) (next n : ℕ) → size ≤ n → Putting before at out next n → Puts before at (rows (entries_from position a s 0 (part past_node l 0 size))) out next
  unfolding rows
  putting_ends before at out next n h w =
      subst (λ (es : List Entry). Puts before at (rows es) out next) (sym (rest_all position a s l size))
      (w.whole out next
      (subst (λ (es : List Entry). Puts out next (rows es) out next) (sym (rest_none position a s l size n h)) (puts_none out next)))
