-- Inner: crate planfile shows that reading is what its description says.
-- Reading the plan file: the plan, or the first faulty field from the front with its fault and byte offset.
use Rattle.std.specs.Prelude.{cond, List, ℕ, length, replicate, eqb, Result, Ok}
use Rattle.wire.specs.Map.{bit}
use Rattle.plan.specs.declared.Fault.{Fault}
use Rattle.plan.specs.declared.FaultAt.{FaultAt}
use Rattle.plan.specs.declared.Automaton.{Automaton}
use Rattle.plan.specs.declared.Plan.{Plan}
use Rattle.plan.specs.declared.fields.Peripherals.{Peripherals}
use Rattle.plan.specs.declared.fields.Events.{Events}
use Rattle.plan.specs.declared.fields.Activities.{Activities}
use Rattle.plan.specs.Fields.{Read, found, faulty, and_then, byte_at}
use Rattle.plan.specs.Nodes.{zero_node}
use Rattle.plan.specs.Sections.{resources_at, peripherals_at, events_at, activities_at}
use Rattle.plan.specs.Moves.{zero_automaton, automaton_at}

abbrev pub zero_plan : Plan
zero_plan =
    record {
      resources = 0;
      peripherals = 0;
      belongs = replicate 64 0;
      events = 0;
      outcomes = replicate 16 0;
      activities = 0;
      sizes = replicate 32 0;
      nodes = replicate 2048 zero_node;
      automaton = zero_automaton;
    }

-- "The first byte is a map of sections ...; bits 5 to 7 are 0." "bit 4: automaton; always present."
unfoldable pub sections_at : List ℕ → ℕ → Read ℕ
sections_at b at = and_then (byte_at 0 32 Fault.Map b at) (λ m next. cond (bit 4 m) (found m next) (faulty Fault.NoAutomaton at))

-- "bytes left over": the plan is accepted where its last section ends the bytes
unfoldable pub ended_at : List ℕ → ℕ → Plan → Result Plan FaultAt
ended_at b at p = cond (eqb at (length b)) (Ok p) (faulty Fault.LeftOver at)

abbrev pub plan_of : ℕ → Peripherals → Events → Activities → Automaton → Plan
plan_of resources x e a t =
    record {
      resources = resources;
      peripherals = x.count;
      belongs = x.belongs;
      events = e.count;
      outcomes = e.outcomes;
      activities = a.count;
      sizes = a.sizes;
      nodes = a.nodes;
      automaton = t;
    }

module _ (b : List ℕ) where
  -- what follows the sections that were read
  unfoldable pub with_activities : ℕ → Peripherals → Events → Activities → ℕ → Result Plan FaultAt
  with_activities resources x e a at =
      and_then (automaton_at e.count e.outcomes a.count b at) (λ t next. ended_at b next (plan_of resources x e a t))

  unfoldable pub with_events : ℕ → ℕ → Peripherals → Events → ℕ → Result Plan FaultAt
  with_events m resources x e at = and_then (activities_at x.count resources e.count b m at) (with_activities resources x e)

  unfoldable pub with_peripherals : ℕ → ℕ → Peripherals → ℕ → Result Plan FaultAt
  with_peripherals m resources x at = and_then (events_at m b at) (with_events m resources x)

  -- the sections of a map, from the offset after it
  unfoldable pub plan_at : ℕ → ℕ → Result Plan FaultAt
  plan_at m at =
      and_then (resources_at m b at)
      (λ resources next. and_then (peripherals_at m resources b next) (with_peripherals m resources))

  unfoldable pub read_plan : Result Plan FaultAt
  read_plan = and_then (sections_at b 0) plan_at
