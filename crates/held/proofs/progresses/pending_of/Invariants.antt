use Rattle.std.specs.Prelude.{◌≡◌, length}
use Rattle.held.specs.declared.HeldInstance.{HeldInstance}
use Rattle.times.specs.declared.Instance.{Instance}
use Rattle.held.specs.Held.{instance_of}
use Rattle.held.proofs.Filled.{filled}
use Rattle.held.proofs.progresses.pending_of.Given as goal

abbrev pub invariant-loop-i : goal.invariant-loop-i
invariant-loop-i l = (length l.initial.pending ≡ 128) × (l.pending ≡ filled HeldInstance Instance instance_of l.held l.initial.pending l.i)
