-- `moves_upto` fills in the first transitions, one after the other.
use Rattle.std.specs.Prelude.{◌≡◌}
use Rattle.held.specs.Inner.Plans.{moves_upto}
use Rattle.held.proofs.moves.moves_upto.Given as goal

abbrev pub invariant-loop-i : goal.invariant-loop-i
invariant-loop-i l = l.moves ≡ moves_upto l.i l.held
