-- The verdict computed on plans: T as document 01 prints it, K3's plan, and T damaged once for each of the numbers 21 to 26.
use Rattle.std.specs.Prelude.{◌≡◌, refl, List, [], ◌∷◌, ◌++◌, map, ℕ, zero, suc, ◌+◌, ◌^◌, length, Ok}
use Rattle.basis.specs.Tests.{falses}
use Rattle.plan.specs.declared.Input.{Input}
use Rattle.plan.specs.declared.Output.{Output}
use Rattle.plan.specs.declared.Transition.{Transition}
use Rattle.plan.specs.declared.Automaton.{Automaton}
use Rattle.plan.specs.declared.Plan.{Plan}
use Rattle.plan.specs.declared.Fault.{Fault}
use Rattle.plan.specs.Verdict.{Verdict, faulty}
use Rattle.plan.proofs.Laws.Example.{plan_t}
use Rattle.automaton.specs.Tests.{all}
use Rattle.automaton.specs.Next.{ways_from, chosen_from}
use Rattle.automaton.specs.Number.{automaton_verdict, state_verdict, way_verdict, path_verdict, judge_counts, lowest, no_way_out, apart_from, branches_in, serves, finals_of, pass_back, again, advanced, pass_on}

-- T with another automaton
with_t : Automaton → Plan
with_t a = record {
  resources = plan_t.resources;
  peripherals = plan_t.peripherals;
  belongs = plan_t.belongs;
  events = plan_t.events;
  outcomes = plan_t.outcomes;
  activities = plan_t.activities;
  sizes = plan_t.sizes;
  nodes = plan_t.nodes;
  automaton = a;
}

-- states 0 to n, of which the last is final
up_to : ℕ → List Transition → Plan
up_to n ts = with_t (record { states = n + 1; initial = 0; finals = 2 ^ n; count = length ts; moves = ts })

goes : ℕ → ℕ → Output → Transition
goes s q o = record { from = s; to = q; input = Input.Nothing; output = o }

-- on outcome u of the event
when : ℕ → ℕ → ℕ → Output → Transition
when s q u o = record { from = s; to = q; input = Input.Outcome 0 u; output = o }

sensing : Output
sensing = Output.Activity 0

last : Output
last = Output.Activity 1

-- K3: one state, initial and final, and nothing else
pub plan3 : Plan
plan3 = record {
  resources = 0;
  peripherals = 0;
  belongs = [];
  events = 0;
  outcomes = [];
  activities = 0;
  sizes = [];
  nodes = [];
  automaton = record { states = 1; initial = 0; finals = 1; count = 0; moves = [] };
}

-- n transitions from state s on that emit the event, then n that process it
emitting : ℕ → ℕ → List Transition
emitting zero s = []
emitting (suc n) s = goes s (s + 1) sensing ∷ emitting n (s + 1)

processing : ℕ → ℕ → List Transition
processing zero s = []
processing (suc n) s = when s (s + 1) 0 last ∷ when s (s + 1) 1 last ∷ processing n (s + 1)

pub many : ℕ → Plan
many n = up_to (n + n) (emitting n 0 ++ processing n n)

-- plans with their verdicts: T, K3, then T with a fault
pub cases : List (Plan × Verdict)
cases =
    (plan_t, Ok tt) ∷
    (plan3, Ok tt) ∷
    -- a way out of the final state
    (up_to 2 (goes 0 1 sensing ∷ when 1 1 0 sensing ∷ when 1 2 1 last ∷ goes 2 2 last ∷ []), faulty Fault.WayOutOfFinal 2) ∷
    -- a transition listed twice
    (up_to 2 (goes 0 1 sensing ∷ when 1 1 0 sensing ∷ when 1 2 1 last ∷ when 1 2 1 last ∷ []), faulty Fault.ForbiddenBranch 1) ∷
    -- no transition for outcome 0
    (up_to 2 (goes 0 1 sensing ∷ when 1 2 1 last ∷ []), faulty Fault.OutcomeMissing 1) ∷
    -- no path from state 1 to the final state, nor from 0
    (up_to 2 (goes 0 1 sensing ∷ when 1 1 0 sensing ∷ when 1 1 1 last ∷ []), faulty Fault.NoWayToFinal 0) ∷
    -- nothing emitted before the event is processed
    (up_to 2 (goes 0 1 last ∷ when 1 1 0 sensing ∷ when 1 2 1 last ∷ []), faulty Fault.Unbalanced 0) ∷
    -- one emitted at the end is left over
    (up_to 2 (goes 0 1 sensing ∷ when 1 1 0 sensing ∷ when 1 2 1 sensing ∷ []), faulty Fault.Unbalanced 0) ∷
    -- 8 pending, and 9
    (many 8, Ok tt) ∷
    (many 9, faulty Fault.TooManyPending 0) ∷ []

pub cases_right : map (λ c. automaton_verdict c.0) cases ≡ map (λ c. c.1) cases
unfolding cases with_t up_to goes when sensing last emitting processing many plan3 automaton_verdict state_verdict way_verdict path_verdict judge_counts lowest no_way_out apart_from branches_in serves falses finals_of pass_back again advanced pass_on all ways_from chosen_from
cases_right = refl
