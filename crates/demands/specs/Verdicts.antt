-- The whole verdict on a file, refusals included: "While reading, first faulty field from the front ..", "Then activities in
-- order ..", "Then the automaton ..".
use Rattle.std.specs.Prelude.{◌≡◌, List, ◌↔◌, ℕ, ◌≤◌, ◌<◌, Ok}
use Rattle.plan.specs.Fault.{number_of}
use Rattle.plan.specs.Reading.{zero_plan}
use Rattle.plan.specs.declared.Fault.{Fault}
use Rattle.plan.specs.declared.Plan.{Plan}
use Rattle.plan.specs.Verdict.{Verdict, faulty}
use Rattle.format.specs.Format.{Refuses, Holds, print}
use Rattle.plan_file.specs.PlanFile.{fault_order, plan_file}
use Rattle.activity.specs.Activities.{MeetsAt, FirstAt}
use Rattle.automaton.specs.Rules.{MeetsAutomaton, Judges}
use Rattle.judge.specs.Judge.{judge_of}
use Rattle.demands.specs.Accepted.{Bytes}
use Rattle.demands.specs.Alike.{SamePlan}

-- "The plan file", by its description: the plan's numbers fit their fields and none is at fault, and the bytes are its writing
pub record FileOf (b : List ℕ) (p : Plan) : Type 0 where
  pub holds : Holds fault_order plan_file p
  pub printed : print plan_file p ≡ b

-- "What an activity must satisfy", each of them
abbrev pub EachMeets : Plan → Type 0
EachMeets p = (a : ℕ) → a < p.activities → MeetsAt p a

pub data Judged (b : List ℕ) : Verdict → Type 0 where
  -- 1 to 8: the first faulty field of the file's description (planfile), by its first fault in the order; place = its offset
  reading : {f : Fault} {k : ℕ} → Refuses 1 fault_order 6 b plan_file (number_of f) k → Judged b (faulty f k)
  -- 11 to 18: the bytes are a plan's, and its activity i is the first at fault; place = activity
  activity : {p : Plan} {f : Fault} {i : ℕ} → FileOf b p → FirstAt p f i → Judged b (faulty f i)
  -- 21 to 26: its activities meet their rules, and the automaton is at fault
  automaton : {p : Plan} {f : Fault} {s : ℕ} → FileOf b p → EachMeets p → Judges p (faulty f s) → Judged b (faulty f s)
  accepted : {p : Plan} → FileOf b p → EachMeets p → MeetsAutomaton p → Judged b (Ok tt)

abbrev pub StatementVerdict : Type 0
StatementVerdict = (b : List ℕ) (v : Verdict) → Bytes b → ((judge_of b).verdict ≡ v) ↔ Judged b v

-- "A plan is accepted if and only if it meets the definitions": without a word on how a plan is stored
pub record Meeting (b : List ℕ) : Type 0 where
  pub plan : Plan
  pub file : FileOf b plan
  pub activities : EachMeets plan
  pub automaton : MeetsAutomaton plan

abbrev pub StatementAcceptedPlain : Type 0
StatementAcceptedPlain = (b : List ℕ) → Bytes b → ((judge_of b).verdict ≡ Ok tt) ↔ Meeting b

-- the file of a plan is that of no other: two plans of one file differ in nothing but slots past a count
abbrev pub StatementOnlyPlan : Type 0
StatementOnlyPlan = (b : List ℕ) (p q : Plan) → Bytes b → FileOf b p → FileOf b q → SamePlan p q

-- the plan that is handed on is the file's, and meets the definitions
abbrev pub StatementHandedOn : Type 0
StatementHandedOn =
    (b : List ℕ) → Bytes b → (judge_of b).verdict ≡ Ok tt
    → FileOf b (judge_of b).plan × EachMeets (judge_of b).plan × MeetsAutomaton (judge_of b).plan

-- a refused file hands on a plan of zeros
abbrev pub StatementRefusedPlan : Type 0
StatementRefusedPlan = (b : List ℕ) (f : Fault) (place : ℕ) → (judge_of b).verdict ≡ faulty f place → (judge_of b).plan ≡ zero_plan

-- ---- by number and place

-- the file is refused with this number and this place
pub record RefusedAs (b : List ℕ) (number place : ℕ) : Type 0 where
  pub fault : Fault
  pub answered : (judge_of b).verdict ≡ faulty fault place
  pub numbered : number_of fault ≡ number

abbrev pub StatementVerdictNumbers : Type 0
StatementVerdictNumbers = (b : List ℕ) (f : Fault) (place : ℕ) → Bytes b → RefusedAs b (number_of f) place ↔ Judged b (faulty f place)

-- the numbers of reading are 1 to 8, those of an activity 11 to 18, those of the automaton 21 to 26
abbrev pub StatementReadingNumbers : Type 0
StatementReadingNumbers = (b : List ℕ) (n k : ℕ) → Refuses 1 fault_order 6 b plan_file n k → (1 ≤ n) × (n ≤ 8)

abbrev pub StatementActivityNumbers : Type 0
StatementActivityNumbers = (p : Plan) (f : Fault) (i : ℕ) → FirstAt p f i → (11 ≤ number_of f) × (number_of f ≤ 18)

abbrev pub StatementAutomatonNumbers : Type 0
StatementAutomatonNumbers = (p : Plan) (f : Fault) (s : ℕ) → Judges p (faulty f s) → (21 ≤ number_of f) × (number_of f ≤ 26)
