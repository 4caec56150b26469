use Rattle.std.specs.Prelude.{◌≡◌, length}
use Rattle.times.specs.declared.Instance.{Instance}
use Rattle.held.specs.declared.HeldInstance.{HeldInstance}
use Rattle.held.specs.Held.{held_instance}
use Rattle.held.proofs.Filled.{filled}
use Rattle.held.proofs.progresses.hold_pending.Given as goal

abbrev pub invariant-loop-i : goal.invariant-loop-i
invariant-loop-i l = (length l.initial.held ≡ 128) × (l.held ≡ filled Instance HeldInstance held_instance l.pending l.initial.held l.i)
