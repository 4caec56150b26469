-- `place_of` tells where a node stands: of the places passed none holds it.
use Rattle.run_window.proofs.Laws.Scans.{FromOn}
use Rattle.run_window.proofs.places.place_of.Given as goal

abbrev pub invariant-loop-lowest : goal.invariant-loop-lowest
invariant-loop-lowest l = FromOn l.position l.node l.window l.lowest
