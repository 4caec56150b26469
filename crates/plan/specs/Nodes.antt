-- Inner: crate planfile shows that reading is what its description says.
-- "A node is a map byte, then only the fields whose bits stand": reading a node.
use Rattle.std.specs.Prelude.{Bool, true, false, cond, List, ℕ, zero, suc, ◌+◌, Option, Some, None, set, replicate, ltb}
use Rattle.wire.specs.Number.{optional}
use Rattle.wire.specs.Map.{bit}
use Rattle.plan.specs.declared.Fault.{Fault}
use Rattle.plan.specs.declared.Kind.{Kind}
use Rattle.plan.specs.declared.Node.{Node}
use Rattle.plan.specs.declared.fields.Asks.{Asks}
use Rattle.plan.specs.declared.fields.Preds.{Preds}
use Rattle.plan.specs.Fields.{Read, found, faulty, and_then, any_at, name_at, optional_count}
use Rattle.plan.specs.Limits.{longest}

-- "Exactly one of bits 0 to 3 stands and says which of the four kinds the node is. Claims and releases have no bit 4.":
-- the kind, from bits 0 to 4
abbrev pub asks_by : Bool → Bool → Bool → Bool → Bool → Option Asks
asks_by true false false false long = Some Asks.Action
asks_by false false false true long = Some Asks.Event
asks_by false true false false false = Some Asks.Claim
asks_by false false true false false = Some Asks.Release
asks_by false false false false long = None
asks_by false true false false true = None
asks_by false false true false true = None
asks_by false false true true long = None
asks_by false true false true long = None
asks_by false true true event long = None
asks_by true false false true long = None
asks_by true false true event long = None
asks_by true true release event long = None

-- "Bits 6 and 7 are 0."
unfoldable pub asks_of : ℕ → Option Asks
asks_of m = cond (ltb m 64) (asks_by (bit 0 m) (bit 1 m) (bit 2 m) (bit 3 m) (bit 4 m)) None

-- "action (action number, peripheral; any action number is good)"
abbrev pub action_at : ℕ → List ℕ → ℕ → Read Kind
action_at peripherals b at = and_then (any_at b at) (λ a after. and_then (name_at peripherals b after) (λ x end. found (Kind.Action a x) end))

-- "claim (resource)"
abbrev pub claim_at : ℕ → List ℕ → ℕ → Read Kind
claim_at resources b at = and_then (name_at resources b at) (λ r end. found (Kind.Claim r) end)

-- "release (resource)"
abbrev pub release_at : ℕ → List ℕ → ℕ → Read Kind
release_at resources b at = and_then (name_at resources b at) (λ r end. found (Kind.Release r) end)

-- "event (event number)"
abbrev pub event_at : ℕ → List ℕ → ℕ → Read Kind
event_at events b at = and_then (name_at events b at) (λ e end. found (Kind.Event e) end)

-- the fields of the kind, from `next` on; the map stands at `at`
unfoldable pub kind_by : Option Asks → ℕ → ℕ → ℕ → List ℕ → ℕ → ℕ → Read Kind
kind_by (Some Asks.Action) peripherals resources events b at next = action_at peripherals b next
kind_by (Some Asks.Claim) peripherals resources events b at next = claim_at resources b next
kind_by (Some Asks.Release) peripherals resources events b at next = release_at resources b next
kind_by (Some Asks.Event) peripherals resources events b at next = event_at events b next
kind_by None peripherals resources events b at next = faulty Fault.Map at

-- "bit 4 duration (four bytes, 1 to 60,000,000)"; "No bit 4 means duration 0."
unfoldable pub duration_at : ℕ → List ℕ → ℕ → Read ℕ
duration_at m = optional found faulty Fault.Ends 4 1 (longest + 1) Fault.Duration (bit 4 m)

-- "then node numbers, strictly rising": k more of them; the next goes to place i, is below `size`, and is at least `low`
unfoldable pub preds_loop : ℕ → List ℕ → ℕ → ℕ → ℕ → ℕ → ℕ → List ℕ → Read Preds
preds_loop size b count zero at i low preds = found (record { count = count; preds = preds }) at
preds_loop size b count (suc k) at i low preds =
    and_then (name_at size b at)
    (λ x next. cond (ltb x low) (faulty Fault.NotRising at) (preds_loop size b count k next (i + 1) (x + 1) (set preds i x)))

-- "bit 5 predecessors (count 1 to 8, then node numbers, strictly rising)"
unfoldable pub preds_at : ℕ → ℕ → List ℕ → ℕ → Read Preds
preds_at m size b at = and_then (optional_count 8 (bit 5 m) b at) (λ count next. preds_loop size b count count next 0 0 (replicate 8 0))

abbrev pub zero_node : Node
zero_node = record { kind = Kind.Action 0 0; duration = 0; count = 0; preds = replicate 8 0 }

-- the fields after a node's kind
unfoldable pub node_with : ℕ → Kind → ℕ → List ℕ → ℕ → Read Node
node_with m k size b at =
    and_then (duration_at m b at)
    (λ d next. and_then (preds_at m size b next) (λ p end. found (record { kind = k; duration = d; count = p.count; preds = p.preds }) end))

-- a node of an activity of `size` nodes
unfoldable pub node_at : ℕ → ℕ → ℕ → ℕ → List ℕ → ℕ → Read Node
node_at peripherals resources events size b at =
    and_then (any_at b at)
    (λ m next. and_then (kind_by (asks_of m) peripherals resources events b at next) (λ k after. node_with m k size b after))
