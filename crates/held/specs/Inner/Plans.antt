-- A plan with the nodes of its activities and its transitions, and zeros in the spare room.
use Rattle.std.specs.Prelude.{List, ◌++◌, map, ℕ, ◌*◌, take, drop, replicate}
use Rattle.plan.specs.Plan.{past_move}
use Rattle.plan.specs.Nodes.{zero_node}
use Rattle.plan.specs.declared.Node.{Node}
use Rattle.plan.specs.declared.Plan.{Plan}
use Rattle.plan.specs.declared.Transition.{Transition}
use Rattle.held.specs.declared.HeldMove.{HeldMove}
use Rattle.held.specs.declared.HeldNode.{HeldNode}
use Rattle.held.specs.declared.HeldPlan.{HeldPlan}
use Rattle.held.specs.Held.{node_of, move_of}

-- the first n of what is held, as f reads it, and behind them what `zeros` has
abbrev pub upto : {X Y : Type 0} → (X → Y) → ℕ → List X → List Y → List Y
upto f n held zeros = map f (take n held) ++ drop n zeros

abbrev pub nodes_upto : ℕ → List HeldNode → List Node
nodes_upto n held = upto node_of n held (replicate 2048 zero_node)

abbrev pub moves_upto : ℕ → List HeldMove → List Transition
moves_upto n held = upto move_of n held (replicate 256 past_move)

-- the plan with these nodes and transitions
abbrev pub plan_with : HeldPlan → List Node → List Transition → Plan
plan_with h nodes moves =
    record {
      resources = h.resources;
      peripherals = h.peripherals;
      belongs = h.belongs;
      events = h.events;
      outcomes = h.outcomes;
      activities = h.activities;
      sizes = h.sizes;
      nodes = nodes;
      automaton = record { states = h.states; initial = h.initial; finals = h.finals; count = h.count; moves = moves };
    }

abbrev pub plan_upto : HeldPlan → Plan
plan_upto h = plan_with h (nodes_upto (64 * h.activities) h.nodes) (moves_upto h.count h.moves)
