-- The nodes of a combined activity that a run starts: its actions and events; and the activity at a position.
use Rattle.std.specs.Prelude.{◌≡◌, List, [], ◌∷◌, ℕ, ◌+◌}
use Rattle.plan.specs.Plan.{move}
use Rattle.plan.specs.declared.Kind.{Kind}
use Rattle.plan.specs.declared.Output.{Output}
use Rattle.plan.specs.declared.Plan.{Plan}
use Rattle.run_window.specs.declared.Entry.{Entry}
use Rattle.times_combined.specs.Combined.{Ident, Graph, Is, identity}
use Rattle.demands_log.specs.Log.{Id, id}

abbrev pub whose : Id → Ident
whose x = identity x.position x.node

-- the node of an entry of the window
abbrev pub id_of : Entry → Id
id_of e = id e.position e.node

-- an action or an event of an activity over identities
abbrev pub Working : Kind → Type 0
Working (Kind.Action a p) = Unit {0}
Working (Kind.Claim r) = ⊥
Working (Kind.Release r) = ⊥
Working (Kind.Event e) = Unit {0}

abbrev pub Work : Graph → Id → Type 0
Work G x = (k : Kind) × Is G (whose x) k × Working k

-- the activity that the word has at a position; transitions are counted from the end of the list
abbrev pub length_of : List ℕ → ℕ
length_of [] = 0
length_of (i ∷ is) = length_of is + 1

pub data EmitsAt (p : Plan) : List ℕ → ℕ → ℕ → Type 0 where
  here : {is : List ℕ} {i a q : ℕ} → q ≡ length_of is → (move p.automaton i).output ≡ Output.Activity a → EmitsAt p (i ∷ is) q a
  earlier : {is : List ℕ} {i a q : ℕ} → EmitsAt p is q a → EmitsAt p (i ∷ is) q a
