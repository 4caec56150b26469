use Rattle.std.specs.Prelude.{◌≡◌, length}
use Rattle.held.specs.declared.HeldEntry.{HeldEntry}
use Rattle.run_window.specs.declared.Entry.{Entry}
use Rattle.held.specs.Held.{entry_of}
use Rattle.held.proofs.Filled.{filled}
use Rattle.held.proofs.places.window_of.Given as goal

abbrev pub invariant-loop-i : goal.invariant-loop-i
invariant-loop-i l = (length l.initial.window ≡ 512) × (l.window ≡ filled HeldEntry Entry entry_of l.held l.initial.window l.i)
