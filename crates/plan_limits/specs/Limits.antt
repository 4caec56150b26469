-- The limits of "The plan file" as tests. That they tell exactly what is in limits is proved in Plans and Files.
use Rattle.std.specs.Prelude.{Bool, true, ◌&&◌, ◌||◌, List, ℕ, ◌*◌, ◌+◌, ◌-◌, ◌/◌, ◌%◌, ◌^◌, get_or, ltb, leb, eqb}
use Rattle.basis.specs.Tests.{every}
use Rattle.plan.specs.Plan.{past_node, past_move}
use Rattle.plan.specs.Limits.{longest}
use Rattle.plan.specs.declared.Kind.{Kind}
use Rattle.plan.specs.declared.Node.{Node}
use Rattle.plan.specs.declared.Input.{Input}
use Rattle.plan.specs.declared.Output.{Output}
use Rattle.plan.specs.declared.Transition.{Transition}
use Rattle.plan.specs.declared.Automaton.{Automaton}
use Rattle.plan.specs.declared.Plan.{Plan}

-- x lies from `low` to below `below`
abbrev pub is_within : ℕ → ℕ → ℕ → Bool
is_within low below x = leb low x && ltb x below

-- the first `count` of some numbers do
unfoldable pub within : ℕ → ℕ → ℕ → List ℕ → Bool
within low below count xs = every count (λ i. is_within low below (get_or xs i 0))

-- ---- a plan

-- the numbers in a node's kind name something; "any action number is good"
abbrev pub kind_names : ℕ → ℕ → ℕ → Kind → Bool
kind_names resources peripherals events (Kind.Action a x) = ltb x peripherals
kind_names resources peripherals events (Kind.Claim r) = ltb r resources
kind_names resources peripherals events (Kind.Release r) = ltb r resources
kind_names resources peripherals events (Kind.Event e) = ltb e events

-- a node of an activity of `size` nodes: its predecessors are node numbers
unfoldable pub node_in_limits : ℕ → ℕ → ℕ → ℕ → Node → Bool
node_in_limits resources peripherals events size n =
    kind_names resources peripherals events n.kind
    && (leb n.duration longest && (leb n.count 8 && within 0 size n.count n.preds))

-- place n of an activity of `size` nodes: a node, or spare room
unfoldable pub slot_in_limits : ℕ → ℕ → ℕ → ℕ → ℕ → Node → Bool
slot_in_limits resources peripherals events size n x = leb size n || node_in_limits resources peripherals events size x

-- node n of activity a stands at 64 * a + n
unfoldable pub nodes_in_limits : ℕ → ℕ → ℕ → ℕ → List ℕ → List Node → Bool
nodes_in_limits resources peripherals events activities sizes nodes =
    every (64 * activities)
    (λ i. slot_in_limits resources peripherals events (get_or sizes (i / 64) 0) (i % 64) (get_or nodes i past_node))

-- "bit 0: event and outcome"
abbrev pub input_names : ℕ → List ℕ → Input → Bool
input_names events outcomes Input.Nothing = true
input_names events outcomes (Input.Outcome e o) = ltb e events && ltb o (get_or outcomes e 0)

-- "bit 1: activity"
abbrev pub output_names : ℕ → Output → Bool
output_names activities Output.Empty = true
output_names activities (Output.Activity a) = ltb a activities

-- "a map byte, from-state, to-state, then .."
unfoldable pub move_in_limits : ℕ → ℕ → ℕ → List ℕ → Transition → Bool
move_in_limits states activities events outcomes t =
    ltb t.from states
    && (ltb t.to states && (input_names events outcomes t.input && output_names activities t.output))

unfoldable pub moves_in_limits : ℕ → ℕ → ℕ → List ℕ → ℕ → List Transition → Bool
moves_in_limits states activities events outcomes count moves =
    every count (λ i. move_in_limits states activities events outcomes (get_or moves i past_move))

-- "State count 1 to 64, initial state, eight bytes of final-state bits"; no "final bit past the last state"
abbrev pub states_in_limits : ℕ → ℕ → ℕ → Bool
states_in_limits states initial finals =
    leb 1 states && (leb states 64 && (ltb initial states && ltb finals (2 ^ states)))

-- "two-byte transition count 0 to 256, transitions"
unfoldable pub automaton_in_limits : ℕ → ℕ → List ℕ → Automaton → Bool
automaton_in_limits activities events outcomes a =
    states_in_limits a.states a.initial a.finals
    && (leb a.count 256 && moves_in_limits a.states activities events outcomes a.count a.moves)

-- what the counts count: "for each, one byte, its resource"; "how many outcomes it has, 1 to 8"; "a node count, 1 to 64"
unfoldable pub parts_in_limits : Plan → Bool
parts_in_limits p =
    within 0 p.resources p.peripherals p.belongs
    && (within 1 9 p.events p.outcomes
    && (within 1 65 p.activities p.sizes
    && (nodes_in_limits p.resources p.peripherals p.events p.activities p.sizes p.nodes
    && automaton_in_limits p.activities p.events p.outcomes p.automaton)))

-- every stored count, number and duration of a plan lies within the limits
unfoldable pub in_limits : Plan → Bool
in_limits p =
    leb p.resources 16
    && (leb p.peripherals 64 && (leb p.events 16 && (leb p.activities 32 && parts_in_limits p)))

-- ---- a plan that the file can hold

-- "strictly rising"
unfoldable pub is_rising : ℕ → List ℕ → Bool
is_rising count preds = every (count - 1) (λ i. ltb (get_or preds i 0) (get_or preds (i + 1) 0))

-- an action number is one byte; "Claims and releases have no bit 4. No bit 4 means duration 0."
abbrev pub is_brief : Kind → ℕ → Bool
is_brief (Kind.Action a x) d = leb a 255
is_brief (Kind.Claim r) d = eqb d 0
is_brief (Kind.Release r) d = eqb d 0
is_brief (Kind.Event e) d = true

-- place n of an activity of `size` nodes: a node that the file can hold, or spare room
unfoldable pub slot_written : ℕ → ℕ → Node → Bool
slot_written size n x = leb size n || (is_rising x.count x.preds && is_brief x.kind x.duration)

unfoldable pub nodes_written : ℕ → List ℕ → List Node → Bool
nodes_written activities sizes nodes =
    every (64 * activities) (λ i. slot_written (get_or sizes (i / 64) 0) (i % 64) (get_or nodes i past_node))

unfoldable pub file_rules : Plan → Bool
file_rules p = in_limits p && nodes_written p.activities p.sizes p.nodes
