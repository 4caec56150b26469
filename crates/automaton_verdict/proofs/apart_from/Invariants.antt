-- `apart_from` scans the transitions: those from here on decide.
use Rattle.std.specs.Prelude.{◌≡◌, drop}
use Rattle.automaton.specs.Number.{apart_from}
use Rattle.automaton_verdict.proofs.apart_from.Given as goal

abbrev pub invariant-loop-t : goal.invariant-loop-t
invariant-loop-t l = apart_from l.m l.moves l.s ≡ apart_from l.m (drop l.t-index l.moves) l.s
