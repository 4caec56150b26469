-- The words of a plan: those of the paths of its automaton.
use Rattle.std.specs.Prelude.{◌≡◌, List, [], ◌∷◌, ℕ, ◌<◌}
use Rattle.plan.specs.declared.Plan.{Plan}
use Rattle.plan.specs.declared.Input.{Input}
use Rattle.plan.specs.declared.Transition.{Transition}
use Rattle.plan.specs.Plan.{move, activity_of, resource_of, emitted_by}
use Rattle.plan.specs.Limits.{FileRules}
use Rattle.activity.specs.Rules.{Meets}
use Rattle.times_combined.specs.Word.{Step, Word, τ, ◌▷◌, times, emissions}

abbrev pub step_of : Plan → Transition → Step
step_of p t = record { input = t.input; output = emitted_by p t.output }

-- the word of some transitions, by number; the latest stands first
abbrev pub word_of : Plan → List ℕ → Word
word_of p [] = τ
word_of p (i ∷ is) = word_of p is ▷ step_of p (move p.automaton i)

-- the transitions are a path of the automaton from state s to state q; the latest stands first
abbrev pub Follows : Plan → ℕ → List ℕ → ℕ → Type 0
Follows p s [] q = s ≡ q
Follows p s (i ∷ is) q = Follows p s is (move p.automaton i).from × ((i < p.automaton.count) × ((move p.automaton i).to ≡ q))

-- "Along every path from the initial state, an event is processed only while more of it have been emitted than processed"
abbrev pub OnlyEmitted : Plan → Type 0
OnlyEmitted p = (is : List ℕ) (i e u : ℕ) → Follows p p.automaton.initial is (move p.automaton i).from → i < p.automaton.count → (move p.automaton i).input ≡ Input.Outcome e u → times e (word_of p is) < emissions e (word_of p is)

-- what the times of a plan's words rest on: the file's rules, those of each activity, and that one of the automaton
pub record Lawful (p : Plan) : Type 0 where
  pub file : FileRules p
  pub activities : (a : ℕ) → a < p.activities → Meets (resource_of p) (activity_of p a)
  pub automaton : OnlyEmitted p
