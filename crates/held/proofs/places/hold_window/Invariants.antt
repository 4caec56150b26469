use Rattle.std.specs.Prelude.{◌≡◌, length}
use Rattle.run_window.specs.declared.Entry.{Entry}
use Rattle.held.specs.declared.HeldEntry.{HeldEntry}
use Rattle.held.specs.Held.{held_entry}
use Rattle.held.proofs.Filled.{filled}
use Rattle.held.proofs.places.hold_window.Given as goal

abbrev pub invariant-loop-i : goal.invariant-loop-i
invariant-loop-i l = (length l.initial.held ≡ 512) × (l.held ≡ filled Entry HeldEntry held_entry l.window l.initial.held l.i)
