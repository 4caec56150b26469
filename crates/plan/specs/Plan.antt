-- The parts of a plan, as lists without the arrays' spare room.
use Rattle.std.specs.Prelude.{List, [], ◌∷◌, Bool, false, cond, ℕ, ◌+◌, ◌*◌, get_or, eqb}
use Rattle.basis.specs.Parts.{part}
use Rattle.wire.specs.Map.{bit}
use Rattle.plan.specs.declared.Kind.{Kind}
use Rattle.plan.specs.declared.Node.{Node}
use Rattle.plan.specs.declared.Activity.{Activity}
use Rattle.plan.specs.declared.Input.{Input}
use Rattle.plan.specs.declared.Output.{Output}
use Rattle.plan.specs.declared.Transition.{Transition}
use Rattle.plan.specs.declared.Automaton.{Automaton}
use Rattle.plan.specs.declared.Plan.{Plan}

-- what the logic takes for an element past the end of an array
abbrev pub past_node : Node
past_node = record { kind = Kind.Action 0 0; duration = 0; count = 0; preds = [] }

abbrev pub past_move : Transition
past_move = record { from = 0; to = 0; input = Input.Nothing; output = Output.Empty }

-- a node's predecessors
abbrev pub predecessors : Node → List ℕ
predecessors n = part 0 n.preds 0 n.count

-- the nodes of one activity, by number
abbrev pub nodes_of : Activity → List Node
nodes_of a = part past_node a.nodes 0 a.count

abbrev pub size_of : Plan → ℕ → ℕ
size_of p a = get_or p.sizes a 0

-- the nodes of activity a of a plan, by number
abbrev pub activity_of : Plan → ℕ → List Node
activity_of p a = part past_node p.nodes (64 * a) (size_of p a)

-- the nodes that a transition emits; the empty activity has none
abbrev pub emitted_by : Plan → Output → List Node
emitted_by p Output.Empty = []
emitted_by p (Output.Activity a) = activity_of p a

-- a node of event e
abbrev pub is_event : ℕ → Kind → Bool
is_event e (Kind.Action a x) = false
is_event e (Kind.Claim r) = false
is_event e (Kind.Release r) = false
is_event e (Kind.Event f) = eqb f e

-- how many nodes of an activity are of event e
abbrev pub events_in : ℕ → List Node → ℕ
events_in e [] = 0
events_in e (n ∷ ns) = cond (is_event e n.kind) 1 0 + events_in e ns

-- how many instances of event e an input processes
abbrev pub once : ℕ → Input → ℕ
once e Input.Nothing = 0
once e (Input.Outcome f o) = cond (eqb f e) 1 0

-- the resource of a peripheral
abbrev pub resource_of : Plan → ℕ → ℕ
resource_of p x = get_or p.belongs x 0

-- how many outcomes an event has
abbrev pub outcomes_of : Plan → ℕ → ℕ
outcomes_of p e = get_or p.outcomes e 0

-- transition i, in file order
abbrev pub move : Automaton → ℕ → Transition
move a i = get_or a.moves i past_move

abbrev pub moves_of : Automaton → List Transition
moves_of a = part past_move a.moves 0 a.count

-- "final-state bits": bit s stands for state s
abbrev pub final_bit : ℕ → ℕ → Bool
final_bit finals s = bit s finals

abbrev pub is_final : Automaton → ℕ → Bool
is_final a s = final_bit a.finals s
