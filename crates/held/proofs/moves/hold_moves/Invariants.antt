use Rattle.std.specs.Prelude.{◌≡◌, length}
use Rattle.plan.specs.declared.Transition.{Transition}
use Rattle.held.specs.declared.HeldMove.{HeldMove}
use Rattle.held.specs.Held.{held_move}
use Rattle.held.proofs.Filled.{filled}
use Rattle.held.proofs.moves.hold_moves.Given as goal

abbrev pub invariant-loop-i : goal.invariant-loop-i
invariant-loop-i l = (length l.initial.held ≡ 256) × (l.held ≡ filled Transition HeldMove held_move l.moves l.initial.held l.i)
