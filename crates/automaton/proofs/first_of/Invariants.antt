-- `first_of` goes by the first transition that leaves the state: what it says is what the ways out from i on say.
use Rattle.std.specs.Prelude.{◌≡◌, drop}
use Rattle.automaton.specs.Next.{ways_from, first_by, first_of}
use Rattle.automaton.proofs.first_of.Given as goal

abbrev pub invariant-loop-i : goal.invariant-loop-i
invariant-loop-i l = first_of l.fn.a l.s ≡ first_by l.fn.a (ways_from (drop l.i l.t-items) l.s l.i)
