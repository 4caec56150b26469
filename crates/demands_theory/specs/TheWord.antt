-- "The word is the transitions taken from the initial state: at a waiting state that of the outcome reported for the
-- event's oldest unprocessed instance, elsewhere the only one, as long as there is one."
use Rattle.std.specs.Prelude.{◌≡◌, List, [], ◌∷◌, ℕ, ◌+◌, Some}
use Rattle.plan.specs.Plan.{move}
use Rattle.plan.specs.declared.Plan.{Plan}
use Rattle.automaton.specs.Next.{next_of, chosen_of}
use Rattle.automaton.specs.declared.Next.{Next}
use Rattle.times_combined.specs.Word.{times}
use Rattle.times_combined.specs.Combined.{Graph, Instance, combined, identity}
use Rattle.times_combined.specs.Paths.{word_of}
use Rattle.demands_log.specs.Log.{Id, Log, Told}

-- transitions by number, the latest first; the state after them
abbrev pub state_after : Plan → List ℕ → ℕ
state_after p [] = p.automaton.initial
state_after p (i ∷ is) = (move p.automaton i).to

abbrev pub next_after : Plan → List ℕ → Next
next_after p is = next_of p.automaton (state_after p is)

-- the combined activity of the transitions
abbrev pub whole_of : Plan → List ℕ → Graph
whole_of p is = combined p.resources (word_of p is)

-- the state after them waits or is final
abbrev pub Rests : Plan → List ℕ → Type 0
Rests p is = (t : ℕ) → next_after p is ≡ Next.Goes t → ⊥

-- `is` is a beginning of others: the latest stand first
pub data Tail (is : List ℕ) : List ℕ → Type 0 where
  here : Tail is is
  later : {us : List ℕ} {t : ℕ} → Tail is us → Tail is (t ∷ us)

-- x is the oldest unprocessed instance of event e: as many are before it as were processed
abbrev pub Oldest : Plan → List ℕ → ℕ → Id → Type 0
Oldest p is e x = Instance (whole_of p is) e (times e (word_of p is) + 1) (identity x.position x.node)

-- the transitions are taken by what the log tells
pub data Takes (p : Plan) (log : Log) : List ℕ → Type 0 where
  none : Takes p log []
  goes : {is : List ℕ} {t : ℕ} → Takes p log is → next_after p is ≡ Next.Goes t → Takes p log (t ∷ is)
  hears : {is : List ℕ} {t : ℕ} (e o : ℕ) (x : Id) → Takes p log is → next_after p is ≡ Next.Waits e → Oldest p is e x → Told log x o
      → chosen_of p.automaton (state_after p is) e o ≡ Some t → Takes p log (t ∷ is)

-- there is no further one
pub data Stuck (p : Plan) (log : Log) (is : List ℕ) : Type 0 where
  ended : next_after p is ≡ Next.Ended → Stuck p log is
  waits : (e : ℕ) → next_after p is ≡ Next.Waits e → ((x : Id) (o : ℕ) → Oldest p is e x → Told log x o → ⊥) → Stuck p log is

pub record TheWord (p : Plan) (log : Log) (is : List ℕ) : Type 0 where
  pub taken : Takes p log is
  pub whole : Stuck p log is
