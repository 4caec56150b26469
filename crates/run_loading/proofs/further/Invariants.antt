-- `further` loads path after path. The outer loop's invariant: the whole answer is the answer of the paths that are left; the inner
-- loop puts a path's entries into the lowest free places.
use mathlib.Core.Path.{◌≡◌}
use mathlib.Core.List.{List}
use Prim.Native.Nat.{◌-◌, ◌≤◌}
use native.Mathlib.Omega.{arith}
use lib.ListN.{length, take}
use lib.Seq.{length-take-le}
use Rattle.run_window.proofs.Laws.Placing.{Placing}
use Rattle.run_window.specs.declared.Entry.{Entry}
use Rattle.run_path.specs.declared.Pathed.{Pathed}
use Rattle.run_loading.specs.Loading.{further, most_pending}
use Rattle.run_loading.specs.Inner.Loading.{Loads}
use Rattle.run_loading.proofs.further.Given as goal

-- the entries of a path that are placed
abbrev pub entries_of : Pathed → List Entry
entries_of r = take r.count r.entries

-- its entries, and the next one's place
pub whole : (r : Pathed) → length r.entries ≡ 512 → r.count ≤ 512 → length (entries_of r) ≡ r.count
whole r m n = length-take-le r.count r.entries (omega arith)

abbrev pub invariant-loop-at : goal.invariant-loop-at
invariant-loop-at l = (length l.window ≡ 512) × (length l.found.entries ≡ 512) × (l.found.count ≤ 512) × (l.next ≤ l.found.count) × Placing l.initial.window (entries_of l.found) l.window l.at l.next

abbrev pub invariant-loop : goal.invariant-loop
invariant-loop l =
    Loads l.plan l.progress × (length l.window ≡ 512)
    × (further l.plan most_pending l.initial.progress l.initial.window ≡ further l.plan (most_pending - l.counter) l.progress l.window)
