-- Inner: crate planfile shows that reading is what its description says.
-- "automaton; always present": reading the states and the transitions.
use Rattle.std.specs.Prelude.{cond, List, ℕ, zero, suc, ◌+◌, ◌^◌, get_or, set, replicate}
use Rattle.wire.specs.Number.{number}
use Rattle.wire.specs.Map.{bit}
use Rattle.plan.specs.declared.Fault.{Fault}
use Rattle.plan.specs.declared.Input.{Input}
use Rattle.plan.specs.declared.Output.{Output}
use Rattle.plan.specs.declared.Transition.{Transition}
use Rattle.plan.specs.declared.Automaton.{Automaton}
use Rattle.plan.specs.Fields.{Read, found, faulty, and_then, byte_at, count_at, name_at}
use Rattle.plan.specs.Plan.{past_move}

-- "event and outcome"
abbrev pub outcome_at : ℕ → List ℕ → List ℕ → ℕ → Read Input
outcome_at events outcomes b at =
    and_then (name_at events b at) (λ e next. and_then (name_at (get_or outcomes e 0) b next) (λ o end. found (Input.Outcome e o) end))

-- "bit 0: event and outcome"; "Without bit 0 nothing is processed"
unfoldable pub input_at : ℕ → ℕ → List ℕ → List ℕ → ℕ → Read Input
input_at m events outcomes b at = cond (bit 0 m) (outcome_at events outcomes b at) (found Input.Nothing at)

-- "bit 1: activity"; "without bit 1 the activity is the empty one"
unfoldable pub output_at : ℕ → ℕ → List ℕ → ℕ → Read Output
output_at m activities b at =
    cond (bit 1 m) (and_then (name_at activities b at) (λ a end. found (Output.Activity a) end)) (found Output.Empty at)

module _ (events : ℕ) (outcomes : List ℕ) (activities : ℕ) (b : List ℕ) where
  -- the fields after a transition's states
  unfoldable pub move_with : ℕ → ℕ → ℕ → ℕ → Read Transition
  move_with m from to at =
      and_then (input_at m events outcomes b at)
      (λ input next.
      and_then (output_at m activities b next) (λ output end. found (record { from = from; to = to; input = input; output = output }) end))

module _ (states events : ℕ) (outcomes : List ℕ) (activities : ℕ) (b : List ℕ) where
  -- "from-state, to-state"
  unfoldable pub move_from : ℕ → ℕ → Read Transition
  move_from m at =
      and_then (name_at states b at)
      (λ from next. and_then (name_at states b next) (λ to after. move_with events outcomes activities b m from to after))

  -- "A transition is a map byte, from-state, to-state, then ..."; "Bits 2 to 7 are 0."
  unfoldable pub move_at : ℕ → Read Transition
  move_at at = and_then (byte_at 0 4 Fault.Map b at) move_from

abbrev pub zero_automaton : Automaton
zero_automaton = record { states = 0; initial = 0; finals = 0; count = 0; moves = replicate 256 past_move }

-- "eight bytes of final-state bits"; refused with "a final bit past the last state"
unfoldable pub finals_at : ℕ → List ℕ → ℕ → Read ℕ
finals_at states = number found faulty Fault.Ends 8 0 (2 ^ states) Fault.Names

-- "two-byte transition count 0 to 256"
unfoldable pub move_count_at : List ℕ → ℕ → Read ℕ
move_count_at = number found faulty Fault.Ends 2 0 257 Fault.Count

module _ (events : ℕ) (outcomes : List ℕ) (activities : ℕ) (b : List ℕ) where
  -- k more transitions: the next goes to place i
  unfoldable pub moves_loop : ℕ → ℕ → ℕ → ℕ → ℕ → ℕ → ℕ → List Transition → Read Automaton
  moves_loop states initial finals count zero at i moves =
      found (record { states = states; initial = initial; finals = finals; count = count; moves = moves }) at
  moves_loop states initial finals count (suc k) at i moves =
      and_then (move_at states events outcomes activities b at)
      (λ t next. moves_loop states initial finals count k next (i + 1) (set moves i t))

  -- the fields after the initial state
  unfoldable pub moves_at : ℕ → ℕ → ℕ → Read Automaton
  moves_at states initial at =
      and_then (finals_at states b at)
      (λ finals next.
      and_then (move_count_at b next) (λ count after. moves_loop states initial finals count count after 0 (replicate 256 past_move)))

  -- "State count 1 to 64, initial state, eight bytes of final-state bits, two-byte transition count 0 to 256, transitions."
  unfoldable pub automaton_at : ℕ → Read Automaton
  automaton_at at =
      and_then (count_at 64 b at)
      (λ states next. and_then (name_at states b next) (λ initial after. moves_at states initial after))
