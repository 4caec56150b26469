-- `fresh` writes each place of the window anew from what it stands for, where it stands.
use Rattle.std.specs.Prelude.{◌≡◌, length}
use Rattle.held.specs.declared.HeldEntry.{HeldEntry}
use Rattle.held.specs.Held.{entry_of, held_entry}
use Rattle.held.proofs.Filled.{filled}
use Rattle.held.proofs.places.fresh.Given as goal

abbrev pub again : HeldEntry → HeldEntry
again h = held_entry (entry_of h)

abbrev pub invariant-loop-i : goal.invariant-loop-i
invariant-loop-i l = (length l.initial.window ≡ 512) × (l.window ≡ filled HeldEntry HeldEntry again l.initial.window l.initial.window l.i)
