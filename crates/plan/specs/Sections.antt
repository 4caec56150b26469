-- Inner: crate planfile shows that reading is what its description says.
-- The sections of the plan file before the automaton, in bit order.
use Rattle.std.specs.Prelude.{List, ℕ, zero, suc, ◌+◌, ◌*◌, set, replicate}
use Rattle.wire.specs.Map.{bit}
use Rattle.plan.specs.declared.Fault.{Fault}
use Rattle.plan.specs.declared.Node.{Node}
use Rattle.plan.specs.declared.fields.Peripherals.{Peripherals}
use Rattle.plan.specs.declared.fields.Events.{Events}
use Rattle.plan.specs.declared.fields.Activities.{Activities}
use Rattle.plan.specs.Fields.{Read, found, and_then, count_at, optional_count, numbers_then}
use Rattle.plan.specs.Nodes.{node_at, zero_node}

-- "bit 0: resource count, 1 to 16."
abbrev pub resources_at : ℕ → List ℕ → ℕ → Read ℕ
resources_at m = optional_count 16 (bit 0 m)

-- "for each, one byte, its resource"
unfoldable pub belongs_at : ℕ → ℕ → List ℕ → ℕ → Read Peripherals
belongs_at resources count b at =
    numbers_then 0 resources Fault.Names b (λ next belongs. found (record { count = count; belongs = belongs }) next) count at 0 (replicate 64 0)

-- "bit 1: peripheral count, 1 to 64"
unfoldable pub peripherals_at : ℕ → ℕ → List ℕ → ℕ → Read Peripherals
peripherals_at m resources b at = and_then (optional_count 64 (bit 1 m) b at) (λ count next. belongs_at resources count b next)

-- "for each, one byte, how many outcomes it has, 1 to 8, numbered from 0"
unfoldable pub outcomes_at : ℕ → List ℕ → ℕ → Read Events
outcomes_at count b at =
    numbers_then 1 9 Fault.Count b (λ next outcomes. found (record { count = count; outcomes = outcomes }) next) count at 0 (replicate 16 0)

-- "bit 2: event count, 1 to 16"
unfoldable pub events_at : ℕ → List ℕ → ℕ → Read Events
events_at m b at = and_then (optional_count 16 (bit 2 m) b at) (λ count next. outcomes_at count b next)

module _ (peripherals resources events : ℕ) (b : List ℕ) where
  -- k more nodes of an activity of `size` nodes: the next goes to place i; then what follows them
  unfoldable pub nodes_then : (ℕ → List Node → Read Activities) → ℕ → ℕ → ℕ → ℕ → List Node → Read Activities
  nodes_then follow size zero at i nodes = follow at nodes
  nodes_then follow size (suc k) at i nodes =
      and_then (node_at peripherals resources events size b at) (λ node next. nodes_then follow size k next (i + 1) (set nodes i node))

  -- "each has a node count, 1 to 64, and its nodes": k more activities; the next is activity a
  unfoldable pub activities_loop : ℕ → ℕ → ℕ → ℕ → List ℕ → List Node → Read Activities
  activities_loop count zero at a sizes nodes = found (record { count = count; sizes = sizes; nodes = nodes }) at
  activities_loop count (suc k) at a sizes nodes =
      and_then (count_at 64 b at)
      (λ size next. nodes_then (λ after filled. activities_loop count k after (a + 1) (set sizes a size) filled) size size next (64 * a) nodes)

  -- "bit 3: activity count, 1 to 32"
  unfoldable pub activities_at : ℕ → ℕ → Read Activities
  activities_at m at =
      and_then (optional_count 32 (bit 3 m) b at)
      (λ count next. activities_loop count count next 0 (replicate 32 0) (replicate 2048 zero_node))
