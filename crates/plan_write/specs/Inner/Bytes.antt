-- The bytes of each part of a plan as the code puts them: what the description writes, at whatever limits, since it writes the
-- same at all of them (Laws/Printed).
use Rattle.std.specs.Prelude.{List, [], ◌++◌, ℕ}
use Rattle.wire.specs.Number.{bytes_of, optional_bytes, number_bytes}
use Rattle.format.specs.Format.{each, print}
use Rattle.plan.specs.declared.Kind.{Kind}
use Rattle.plan.specs.declared.Node.{Node}
use Rattle.plan.specs.declared.Input.{Input}
use Rattle.plan.specs.declared.Output.{Output}
use Rattle.plan.specs.declared.Transition.{Transition}
use Rattle.plan.specs.declared.Automaton.{Automaton}
use Rattle.plan.specs.declared.Plan.{Plan}
use Rattle.plan_file.specs.PlanFile.{node, activity, transition, automaton, section_map}

unfoldable pub kind_bytes : Kind → List ℕ
kind_bytes (Kind.Action a x) = bytes_of 1 a ++ bytes_of 1 x
kind_bytes (Kind.Claim r) = bytes_of 1 r
kind_bytes (Kind.Release r) = bytes_of 1 r
kind_bytes (Kind.Event e) = bytes_of 1 e

abbrev pub node_bytes : Node → List ℕ
node_bytes n = print (node 0 0 0 0) n

unfoldable pub input_bytes : Input → List ℕ
input_bytes Input.Nothing = []
input_bytes (Input.Outcome e o) = bytes_of 1 e ++ bytes_of 1 o

unfoldable pub output_bytes : Output → List ℕ
output_bytes Output.Empty = []
output_bytes (Output.Activity a) = bytes_of 1 a

abbrev pub move_bytes : Transition → List ℕ
move_bytes t = print (transition 0 [] 0 0) t

abbrev pub automaton_bytes : Automaton → List ℕ
automaton_bytes a = print (automaton 0 [] 0) a

-- the peripherals and the events
abbrev pub named_bytes : ℕ → List ℕ → ℕ → List ℕ → List ℕ
named_bytes peripherals belongs events outcomes =
    (optional_bytes 1 peripherals ++ number_bytes belongs 0 peripherals) ++ (optional_bytes 1 events ++ number_bytes outcomes 0 events)

-- the map, the resources, the peripherals, the events and the activity count
abbrev pub section_bytes : Plan → List ℕ
section_bytes p =
    bytes_of 1 (section_map p) ++ (optional_bytes 1 p.resources ++ (named_bytes p.peripherals p.belongs p.events p.outcomes ++ optional_bytes 1 p.activities))

-- k activities from activity a on
abbrev pub activity_bytes : Plan → ℕ → ℕ → List ℕ
activity_bytes p a k = print (each (activity p.peripherals p.resources p.events) a k) p
