-- `next_of` keeps the first way out with its input: the ways out are that one, where one is kept, and those from i on.
use Rattle.std.specs.Prelude.{◌≡◌, List, ◌∷◌, ℕ, Option, None, Some, drop}
use Rattle.plan.specs.declared.Input.{Input}
use Rattle.plan.specs.declared.Automaton.{Automaton}
use Rattle.plan.specs.Plan.{move}
use Rattle.automaton.specs.Next.{ways_from, ways_out}
use Rattle.automaton.proofs.next_of.Given as goal

abbrev pub before : Option (ℕ × Input) → List ℕ → List ℕ
before None is = is
before (Some w) is = w.0 ∷ is

-- with a way out that is kept goes its input
abbrev pub Kept : Automaton → Option (ℕ × Input) → Type 0
Kept a None = Unit {0}
Kept a (Some w) = (move a w.0).input ≡ w.1

abbrev pub invariant-loop-i : goal.invariant-loop-i
invariant-loop-i l = record {
  ways : ways_out l.fn.a l.s ≡ before l.first (ways_from (drop l.i l.t-items) l.s l.i);
  input : Kept l.fn.a l.first;
}
