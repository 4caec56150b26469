-- What a turn of the table does at a state, handed an outcome byte or none; and the tables in which it is looked up.
use Rattle.std.specs.Prelude.{◌≡◌, true, false, cond, List, [], ℕ, ◌+◌, ◌*◌, ◌≤◌, ◌<◌, ltb, get_or, Option, None, Some}
use Rattle.plan.specs.Plan.{move}
use Rattle.plan.specs.Limits.{OutputNames}
use Rattle.plan.specs.declared.Output.{Output}
use Rattle.plan.specs.declared.Activity.{Activity}
use Rattle.plan.specs.declared.Automaton.{Automaton}
use Rattle.plan.specs.declared.Plan.{Plan}
use Rattle.automaton.specs.Next.{next_of, chosen_of}
use Rattle.automaton.specs.declared.Next.{Next}
use Rattle.run_path.specs.Inner.Path.{emitted_of}
use Rattle.timetable_steps.specs.declared.Step.{Step}

-- ---- one step

-- the transition of an outcome of event e, if the state has one
abbrev pub chosen_step : Automaton → ℕ → Option ℕ → Step
chosen_step a e None = Step.Waits e
chosen_step a e (Some t) = Step.Takes (move a t) true

-- at state s, which waits for event e; "55 for an outcome the event lacks"
abbrev pub heard_step : Automaton → List ℕ → ℕ → ℕ → Option ℕ → Step
heard_step a outcomes s e None = Step.Waits e
heard_step a outcomes s e (Some o) = cond (ltb o (get_or outcomes e 0)) (chosen_step a e (chosen_of a s e o)) Step.Lacks

abbrev pub next_step : Automaton → List ℕ → ℕ → Option ℕ → Next → Step
next_step a outcomes s heard Next.Ended = Step.Ends
next_step a outcomes s heard (Next.Goes t) = Step.Takes (move a t) false
next_step a outcomes s heard (Next.Waits e) = heard_step a outcomes s e heard

-- by what the state does next
unfoldable pub step_of : Automaton → List ℕ → ℕ → Option ℕ → Step
step_of a outcomes s heard = next_step a outcomes s heard (next_of a s)

-- what a step emits; one that closes the table, nothing
abbrev pub output_of : Step → Output
output_of Step.Ends = Output.Empty
output_of (Step.Waits e) = Output.Empty
output_of Step.Lacks = Output.Empty
output_of (Step.Takes m heard) = m.output

-- ---- what is asked

abbrev pub Below : Option ℕ → Type 0
Below None = Unit {0}
Below (Some t) = t < 256

pub record Named (a : Automaton) (s : ℕ) : Type 0 where
  pub few : a.count ≤ 256
  pub awaited : (e : ℕ) → next_of a s ≡ Next.Waits e → e < 16

-- ---- the tables

-- a state has ten places: for the outcomes 0 to 7, for every other byte, and for none
abbrev pub column_of : Option ℕ → ℕ
column_of None = 9
column_of (Some o) = cond (ltb o 8) o 8

abbrev pub heard_as : ℕ → Option ℕ
heard_as column = cond (ltb column 9) (Some column) None

abbrev pub past_activity : Activity
past_activity = record { count = 0; nodes = [] }

-- every step of the plan stands at its place
pub record Looks (p : Plan) (steps : List Step) : Type 0 where
  pub looked : (s : ℕ) (heard : Option ℕ) → s < p.automaton.states → get_or steps (10 * s + column_of heard) Step.Ends ≡ step_of p.automaton p.outcomes s heard

-- an activity stands at its number, the empty one past the last
abbrev pub place_of : Output → ℕ
place_of Output.Empty = 32
place_of (Output.Activity a) = cond (ltb a 32) a 32

pub record Emits (p : Plan) (all : List Activity) : Type 0 where
  pub emitted : (o : Output) → OutputNames p o → get_or all (place_of o) past_activity ≡ emitted_of p o
