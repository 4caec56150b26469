-- What a state does next, and the transition that an outcome takes.
use Rattle.std.specs.Prelude.{Bool, true, false, cond, ◌&&◌, List, [], ◌∷◌, ℕ, ◌+◌, eqb, Option, None, Some}
use Rattle.plan.specs.declared.Input.{Input}
use Rattle.plan.specs.declared.Transition.{Transition}
use Rattle.plan.specs.declared.Automaton.{Automaton}
use Rattle.plan.specs.Plan.{move, moves_of}
use Rattle.automaton.specs.declared.Next.{Next}

-- i before the others, where the test holds
abbrev pub added : Bool → ℕ → List ℕ → List ℕ
added false i is = is
added true i is = i ∷ is

-- the transitions, numbered from i, that leave state s, in file order
unfoldable pub ways_from : List Transition → ℕ → ℕ → List ℕ
ways_from [] s i = []
ways_from (t ∷ ts) s i = added (eqb t.from s) i (ways_from ts s (i + 1))

-- the ways out of state s
abbrev pub ways_out : Automaton → ℕ → List ℕ
ways_out a s = ways_from (moves_of a) s 0

-- what one transition says: it goes on, or awaits the event that it processes
abbrev pub on_input : Input → ℕ → Next
on_input Input.Nothing i = Next.Goes i
on_input (Input.Outcome e o) i = Next.Waits e

-- what the first of the ways out says, for numbers 21 and 23
abbrev pub first_by : Automaton → List ℕ → Next
first_by a [] = Next.Ended
first_by a (t ∷ ts) = on_input (move a t).input t

abbrev pub first_of : Automaton → ℕ → Next
first_of a s = first_by a (ways_out a s)

-- "only a state with more than one way out is a waiting state": a way out that stands alone is taken, whatever it processes.
-- Of several an accepted plan's all process one event.
abbrev pub next_by : Automaton → List ℕ → Next
next_by a [] = Next.Ended
next_by a (t ∷ []) = Next.Goes t
next_by a (t ∷ u ∷ ts) = on_input (move a t).input t

-- what state s does next
abbrev pub next_of : Automaton → ℕ → Next
next_of a s = next_by a (ways_out a s)

-- whether an input processes event e with outcome o
abbrev pub carries : Input → ℕ → ℕ → Bool
carries Input.Nothing e o = false
carries (Input.Outcome f q) e o = eqb f e && eqb q o

-- the first of the transitions, numbered from i, that leaves state s and processes event e with outcome o
unfoldable pub chosen_from : List Transition → ℕ → ℕ → ℕ → ℕ → Option ℕ
chosen_from [] s e o i = None
chosen_from (t ∷ ts) s e o i = cond (eqb t.from s && carries t.input e o) (Some i) (chosen_from ts s e o (i + 1))

-- the transition that state s takes when event e has outcome o
abbrev pub chosen_of : Automaton → ℕ → ℕ → ℕ → Option ℕ
chosen_of a s e o = chosen_from (moves_of a) s e o 0
