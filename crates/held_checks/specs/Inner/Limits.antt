-- The limits of a plan in two parts: its nodes, which take the longest, and all else.
use Rattle.std.specs.Prelude.{Bool, ◌&&◌, leb}
use Rattle.plan.specs.declared.Plan.{Plan}
use Rattle.plan_limits.specs.Limits.{within, nodes_in_limits, automaton_in_limits}

-- what the counts count, but for the nodes
unfoldable pub counted_in_limits : Plan → Bool
counted_in_limits p =
    within 0 p.resources p.peripherals p.belongs
    && (within 1 9 p.events p.outcomes
    && (within 1 65 p.activities p.sizes
    && automaton_in_limits p.activities p.events p.outcomes p.automaton))

-- all of a plan but its nodes
unfoldable pub numbers_in_limits : Plan → Bool
numbers_in_limits p =
    leb p.resources 16
    && (leb p.peripherals 64 && (leb p.events 16 && (leb p.activities 32 && counted_in_limits p)))

-- its nodes
unfoldable pub nodes_good : Plan → Bool
nodes_good p = leb p.activities 32 && nodes_in_limits p.resources p.peripherals p.events p.activities p.sizes p.nodes
