-- A place of the window that the numbers stand for is what the numbers of that place stand for.
use mathlib.Core.Path.{◌≡◌, sym, ◌∙◌, subst}
use mathlib.Core.List.{List, map}
use Prim.Native.Nat.{ℕ}
use lib.ListN.{get_or, get_or-map}
use Rattle.run_window.specs.Window.{vacant}
use Rattle.run_window.specs.declared.Entry.{Entry}
use Rattle.run_window.specs.Inner.Times.{InTime, AllInTime}
use Rattle.held.specs.declared.HeldEntry.{HeldEntry}
use Rattle.held.specs.Held.{entry_of}

-- past the end of the numbers
abbrev pub zeros : HeldEntry
zeros = record { start = record { 0 = 0 }; end = record { 0 = 0 }; position = 0; activity = 0; node = 0; phase = 0; spare = 0 }

pub place_read : (held : List HeldEntry) (i : ℕ) {e : Entry} → e ≡ entry_of (get_or held i zeros) → e ≡ get_or (map entry_of held) i vacant
place_read held i p = p ∙ sym (get_or-map entry_of held i zeros)

-- so it is in time where every place is
pub time_read : (held : List HeldEntry) (i : ℕ) {e : Entry} → e ≡ entry_of (get_or held i zeros) → AllInTime (map entry_of held) → InTime e
time_read held i p all = subst InTime (sym (place_read held i p)) (all i)
