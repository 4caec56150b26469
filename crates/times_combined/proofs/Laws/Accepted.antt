-- What acceptance gives of the activities of a word, and of what the word processes.
use Rattle.std.specs.Prelude.{List, ℕ, ◌<◌, length}
use Rattle.plan.specs.declared.Kind.{Kind}
use Rattle.plan.specs.declared.Node.{Node}
use Rattle.plan.specs.declared.Input.{Input}
use Rattle.plan.specs.Limits.{Brief}
use Rattle.activity.specs.Rules.{node, Is, Arrow, Meets}
use Rattle.times_combined.specs.Word.{Word, τ, ◌▷◌, times, emissions}

-- An activity of a plan with R resources, in which peripheral p belongs to resource `belongs p`.
pub record Good (R : ℕ) (belongs : ℕ → ℕ) (a : List Node) : Type 0 where
  -- a claim names one of the resources
  pub named : (n r : ℕ) → Is a n (Kind.Claim r) → r < R
  -- "Claims and releases have no bit 4. No bit 4 means duration 0."
  pub brief : (n : ℕ) → n < length a → Brief (node a n).kind (node a n).duration
  -- a predecessor is a node of the activity
  pub inside : (m n : ℕ) → Arrow a m n → m < length a
  -- "What an activity must satisfy (Def. 1)"
  pub meets : Meets belongs a

abbrev pub GoodWord : ℕ → (ℕ → ℕ) → Word → Type 0
GoodWord R belongs τ = Unit {0}
GoodWord R belongs (w ▷ x) = GoodWord R belongs w × Good R belongs x.output

-- "an event is processed only while more of it have been emitted than processed"
abbrev pub Enough : Word → Input → Type 0
Enough w Input.Nothing = Unit {0}
Enough w (Input.Outcome e u) = times e w < emissions e w

abbrev pub Counted : Word → Type 0
Counted τ = Unit {0}
Counted (w ▷ x) = Counted w × Enough w x.input
