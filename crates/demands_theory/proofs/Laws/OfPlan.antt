-- The words of a plan, as transitions by number, the latest first, and "Its combined activity, under the opening's
-- availabilities".
use Rattle.std.specs.Prelude.{◌≡◌, true, List, ℕ, ◌<◌, length}
use Rattle.plan.specs.Plan.{activity_of, is_final}
use Rattle.plan.specs.declared.Node.{Node}
use Rattle.plan.specs.declared.Plan.{Plan}
use Rattle.activity.specs.Rules.{node}
use Rattle.times_combined.specs.Combined.{Before}
use Rattle.times_combined.proofs.Laws.Exec.{start_in, end_in}
use Rattle.times_combined.specs.Paths.{word_of}
use Rattle.demands_theory.proofs.Laws.Machine.{World}
use Rattle.demands_theory.specs.Nodes.{whose, Working, Work, EmitsAt}
use Rattle.demands_theory.specs.TheWord.{state_after, whole_of}

-- "the specified times .. and the arrows: a node depends on those before it"
abbrev pub world_of : Plan → (ℕ → ℕ) → World
world_of p available = record {
  Word = List ℕ;
  Node = λ is x. Work (whole_of p is) x;
  start = λ is x. start_in available (word_of p is) (whose x);
  completion = λ is x. end_in available (word_of p is) (whose x);
  Before = λ is m x. Before (whole_of p is) (whose m) (whose x);
  Emits = λ is q a. EmitsAt p is q a;
  Final = λ is. is_final p.automaton (state_after p is) ≡ true;
}

-- no "action or event with duration not above the slack" (33)
abbrev pub Outlast : ℕ → List Node → Type 0
Outlast slack a = (n : ℕ) → n < length a → Working (node a n).kind → slack < (node a n).duration

abbrev pub Long : Plan → ℕ → Type 0
Long p slack = (a : ℕ) → a < p.activities → Outlast slack (activity_of p a)
