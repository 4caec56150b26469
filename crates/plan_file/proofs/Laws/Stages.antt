-- The description from each field on: what is still due once the numbers in front are read. It cites the parts of PlanFile.
use Rattle.std.specs.Prelude.{List, ℕ}
use Rattle.wire.specs.Map.{bit}
use Rattle.format.specs.Format.{Format, done, ◌>>=◌, part_of, optional, each}
use Rattle.plan.specs.declared.Kind.{Kind}
use Rattle.plan.specs.declared.Node.{Node}
use Rattle.plan.specs.declared.Input.{Input}
use Rattle.plan.specs.declared.Output.{Output}
use Rattle.plan.specs.declared.Transition.{Transition}
use Rattle.plan.specs.declared.Automaton.{Automaton}
use Rattle.plan.specs.declared.Plan.{Plan}
use Rattle.plan.specs.Plan.{past_move}
use Rattle.plan_file.specs.PlanFile.{duration, arrow_count, rising, processing, emitting, final_bits, move_count, move_of, automaton, activity, resource_count, peripheral_count, its_resource, event_count, its_outcomes, activity_count, whole, padded}

-- a node
abbrev pub node_last : Kind → ℕ → ℕ → List ℕ → Format Node Node
node_last k d c preds = done (record { kind = k; duration = d; count = c; preds = padded 8 0 preds })

abbrev pub counted : ℕ → Kind → ℕ → ℕ → Format Node Node
counted size k d c = rising size 0 0 c >>= node_last k d c

abbrev pub timed : ℕ → ℕ → Kind → ℕ → Format Node Node
timed size m k d = arrow_count m >>= counted size k d

abbrev pub kinded : ℕ → ℕ → Kind → Format Node Node
kinded size m k = duration m >>= timed size m k

-- a transition, the automaton
module _ (events : ℕ) (outcomes : List ℕ) (activities : ℕ) where
  abbrev pub move_last : ℕ → ℕ → Input → Output → Format Transition Transition
  move_last from to i o = done (record { from = from; to = to; input = i; output = o })

  abbrev pub inputs : ℕ → ℕ → ℕ → Input → Format Transition Transition
  inputs m from to i = optional (bit 1 m) Output.Empty (emitting events outcomes activities) >>= move_last from to i

  abbrev pub both : ℕ → ℕ → ℕ → Format Transition Transition
  both m from to = optional (bit 0 m) Input.Nothing (processing events outcomes activities) >>= inputs m from to

  abbrev pub end : ℕ → ℕ → ℕ → ℕ → List Transition → Format Automaton Automaton
  end states initial finals c moves = done (record { states = states; initial = initial; finals = finals; count = c; moves = padded 256 past_move moves })

  abbrev pub turns : ℕ → ℕ → ℕ → ℕ → Format Automaton Automaton
  turns states initial finals c = each (move_of events outcomes activities states) 0 c >>= end states initial finals c

  abbrev pub finally : ℕ → ℕ → ℕ → Format Automaton Automaton
  finally states initial finals = move_count events outcomes activities >>= turns states initial finals

  abbrev pub begun : ℕ → ℕ → Format Automaton Automaton
  begun states initial = final_bits events outcomes activities states >>= finally states initial

-- the plan
module _ (resources peripherals : ℕ) (belongs : List ℕ) (events : ℕ) (outcomes : List ℕ) (activities : ℕ) where
  abbrev pub last : List (List Node) → Automaton → Format Plan Plan
  last bodies t = done (whole resources peripherals belongs events outcomes activities bodies t)

  abbrev pub lastly : List (List Node) → Format Plan Plan
  lastly bodies = part_of (λ p. p.automaton) (automaton events outcomes activities) >>= last bodies

  abbrev pub acting : Format Plan Plan
  acting = each (activity peripherals resources events) 0 activities >>= lastly

abbrev pub outcoming : ℕ → ℕ → ℕ → List ℕ → ℕ → List ℕ → Format Plan Plan
outcoming m resources peripherals belongs events outcomes = activity_count m >>= acting resources peripherals belongs events outcomes

abbrev pub eventing : ℕ → ℕ → ℕ → List ℕ → ℕ → Format Plan Plan
eventing m resources peripherals belongs events = each its_outcomes 0 events >>= outcoming m resources peripherals belongs events

abbrev pub belonging : ℕ → ℕ → ℕ → List ℕ → Format Plan Plan
belonging m resources peripherals belongs = event_count m >>= eventing m resources peripherals belongs

abbrev pub having : ℕ → ℕ → ℕ → Format Plan Plan
having m resources peripherals = each (its_resource resources) 0 peripherals >>= belonging m resources peripherals

abbrev pub resourced : ℕ → ℕ → Format Plan Plan
resourced m resources = peripheral_count m >>= having m resources

abbrev pub mapped : ℕ → Format Plan Plan
mapped m = resource_count m >>= resourced m
