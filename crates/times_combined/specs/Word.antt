-- Words of an automaton (Def. 6): the transitions taken, what they process and what they emit.
use Rattle.std.specs.Prelude.{List, ℕ, suc, ◌+◌}
use Rattle.plan.specs.declared.Node.{Node}
use Rattle.plan.specs.declared.Input.{Input}
use Rattle.plan.specs.Plan.{events_in}
pub use Rattle.plan.specs.Plan.{once}

-- Def. 6, a pair (i, o): what a transition processes, with its outcome, and the nodes of the activity that it emits.
-- "Without bit 0 nothing is processed; without bit 1 the activity is the empty one", which has no nodes.
pub record Step : Type 0 where
  pub input : Input
  pub output : List Node

-- "The word is the transitions taken from the initial state": none (Def. 8, τ), or one more after a word.
infixl 20 ◌▷◌
pub data Word : Type 0 where
  τ : Word
  ◌▷◌ : Word → Step → Word

-- v is a beginning of a word
pub data Begins (v : Word) : Word → Type 0 where
  here : Begins v v
  longer : {w : Word} {x : Step} → Begins v w → Begins v (w ▷ x)

-- "position (0 for the first transition of the run, also for empty activities)": that of the next transition
abbrev pub size : Word → ℕ
size τ = 0
size (w ▷ x) = suc (size w)

-- Def. 8, |w|^e: "the number of times e is processed in w"
abbrev pub times : ℕ → Word → ℕ
times e τ = 0
times e (w ▷ x) = times e w + once e x.input

-- how often e is emitted in a word
abbrev pub emissions : ℕ → Word → ℕ
emissions e τ = 0
emissions e (w ▷ x) = emissions e w + events_in e x.output
