-- The two activities of plan T ("One plan, printed"), and smaller ones with each fault, as `fault_of` judges them.
use Rattle.std.specs.Prelude.{◌≡◌, refl, List, [], ◌∷◌, ◌++◌, map, ℕ, ◌-◌, length, replicate, Ok, Err}
use Rattle.basis.specs.Tests.{every, some}
use Rattle.plan.specs.Plan.{resource_of, activity_of}
use Rattle.plan.proofs.Laws.Example.{plan_t}
use Rattle.plan.specs.declared.Kind.{Kind}
use Rattle.plan.specs.declared.Node.{Node}
use Rattle.plan.specs.declared.Fault.{Fault}
use Rattle.plan.specs.declared.Plan.{Plan}
use Rattle.plan.specs.Verdict.{faulty}
use Rattle.activity.specs.Tests.{word_of, passes, before_words}
use Rattle.activity.specs.Number.{no_cycle, rule_i, rule_ii, rule_iii, rule_iv, rule_v, rule_vi, rule_vii, rule_viii, rule_ix, rule_x, rule_xi, fault_by, fault_of, verdict_from, activities_verdict}
use Rattle.plan.specs.Nodes.{zero_node}

abbrev node_of : Kind → ℕ → List ℕ → Node
node_of k d ps = record { kind = k; duration = d; count = length ps; preds = ps }

abbrev claim : ℕ → List ℕ → Node
claim r ps = node_of (Kind.Claim r) 0 ps

abbrev release : ℕ → List ℕ → Node
release r ps = node_of (Kind.Release r) 0 ps

abbrev action : ℕ → ℕ → ℕ → List ℕ → Node
action x p d ps = node_of (Kind.Action x p) d ps

abbrev event : ℕ → ℕ → List ℕ → Node
event e d ps = node_of (Kind.Event e) d ps

abbrev first_of_t : List Node
first_of_t = activity_of plan_t 0

abbrev second_of_t : List Node
second_of_t = activity_of plan_t 1

abbrev cases : List (List Node)
cases =
    first_of_t
    ∷ second_of_t
    ∷ []
    ∷ (claim 0 [] ∷ action 0 0 1 (0 ∷ 2 ∷ []) ∷ action 0 1 1 (1 ∷ []) ∷ release 0 (2 ∷ []) ∷ [])
    ∷ (claim 0 [] ∷ action 0 0 1 (0 ∷ []) ∷ action 1 0 1 (0 ∷ []) ∷ release 0 (1 ∷ 2 ∷ []) ∷ [])
    ∷ (claim 0 [] ∷ claim 0 [] ∷ release 0 (0 ∷ 1 ∷ []) ∷ [])
    ∷ (claim 1 [] ∷ action 0 0 1 (0 ∷ []) ∷ release 1 (1 ∷ []) ∷ [])
    ∷ (claim 0 [] ∷ event 0 1 (0 ∷ []) ∷ [])
    ∷ (claim 0 [] ∷ release 0 (0 ∷ []) ∷ event 0 1 (1 ∷ []) ∷ [])
    ∷ (event 0 1 [] ∷ [])
    ∷ (claim 0 [] ∷ release 0 (0 ∷ []) ∷ event 0 1 (0 ∷ []) ∷ event 0 1 (0 ∷ []) ∷ [])
    ∷ []

judged :
    map (fault_of (resource_of plan_t)) cases
    ≡ (
    Ok tt
    ∷ Ok tt
    ∷ Ok tt
    ∷ Err Fault.Cycle
    ∷ Err Fault.ActionsUnordered
    ∷ Err Fault.NamedTwice
    ∷ Err Fault.ActionUnheld
    ∷ Err Fault.ClaimUnpaired
    ∷ Err Fault.ArrowPastEnd
    ∷ Err Fault.EventFirst
    ∷ Err Fault.EventsUnordered
    ∷ []
    )
unfolding every some word_of passes before_words no_cycle rule_i rule_ii rule_iii rule_iv rule_v rule_vi rule_vii rule_viii rule_ix rule_x rule_xi fault_by fault_of
judged = refl

-- a plan of two activities
abbrev room : List Node → List Node
room l = l ++ replicate (64 - length l) zero_node

abbrev plan_of : List Node → List Node → Plan
plan_of a b =
    record {
      resources = 2;
      peripherals = 3;
      belongs = 0 ∷ 0 ∷ 1 ∷ [];
      events = 1;
      outcomes = 2 ∷ [];
      activities = 2;
      sizes = length a ∷ length b ∷ [];
      nodes = room a ++ room b;
      automaton = record { states = 1; initial = 0; finals = 1; count = 0; moves = [] };
    }

-- the activities of T are accepted; with the second one's release cut off, the place is 1; the first at fault counts
in_order :
    (activities_verdict (plan_of first_of_t second_of_t)
    ∷ activities_verdict (plan_of first_of_t (claim 0 [] ∷ []))
    ∷ activities_verdict (plan_of (event 0 1 [] ∷ []) (claim 0 [] ∷ []))
    ∷ [])
    ≡ (Ok tt ∷ faulty Fault.ClaimUnpaired 1 ∷ faulty Fault.EventFirst 0 ∷ [])
unfolding every some word_of passes before_words no_cycle rule_i rule_ii rule_iii rule_iv rule_v rule_vi rule_vii rule_viii rule_ix rule_x rule_xi fault_by fault_of verdict_from activities_verdict
in_order = refl
