-- `branches` scans the transitions, and holds each of the state's against those after it.
use Rattle.std.specs.Prelude.{◌≡◌, drop}
use Rattle.automaton.specs.Number.{branches_in, branches}
use Rattle.automaton_verdict.proofs.branches.Given as goal

abbrev pub invariant-loop-i : goal.invariant-loop-i
invariant-loop-i l = branches l.a l.s ≡ branches_in (drop l.i l.moves) l.s
