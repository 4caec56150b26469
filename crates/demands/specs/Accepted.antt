-- Demand 2, acceptance: "A plan is accepted if and only if it meets the definitions; nothing is repaired."
use Rattle.std.specs.Prelude.{◌≡◌, List, ◌++◌, ◌↔◌, ℕ, ◌≤◌, ◌<◌, length, drop, Ok}
use Rattle.plan.specs.Plan.{activity_of, resource_of}
use Rattle.plan.specs.declared.Plan.{Plan}
use Rattle.format.specs.Format.{Holds, print, result}
use Rattle.plan_file.specs.PlanFile.{fault_order, plan_file}
pub use Rattle.format.specs.Writing.{Bytes}
use Rattle.activity.specs.Rules.{Meets}
use Rattle.automaton.specs.Rules.{MeetsAutomaton}
use Rattle.judge.specs.Judge.{accepted, judge_of}
use Rattle.plan_write.specs.Writing.{written_of, buffer_of}

-- what a plan and its bytes must meet
pub record Accepts (bytes : List ℕ) (p : Plan) : Type 0 where
  -- "The plan file", by its description: its numbers fit their fields, and none is at fault
  pub holds : Holds fault_order plan_file p
  -- the bytes are its writing
  pub printed : print plan_file p ≡ bytes
  -- and what is read of them is the plan itself: the slots past its counts are zeros
  pub same : result plan_file p ≡ p
  -- "What an activity must satisfy"
  pub activities : (a : ℕ) → a < p.activities → Meets (resource_of p) (activity_of p a)
  -- "What the automaton must satisfy"
  pub automaton : MeetsAutomaton p

abbrev pub StatementAcceptedIff : Type 0
StatementAcceptedIff = (bytes : List ℕ) (p : Plan) → Bytes bytes → (judge_of bytes ≡ accepted p) ↔ Accepts bytes p

-- "No accepted plan exceeds 34,433 bytes."
abbrev pub StatementLongest : Type 0
StatementLongest = (bytes : List ℕ) (p : Plan) → Bytes bytes → judge_of bytes ≡ accepted p → length bytes ≤ 34_433

-- "Writing an accepted plan gives back its bytes", and leaves the buffer's bytes after them unchanged.
abbrev pub StatementWrittenBack : Type 0
StatementWrittenBack =
    (bytes out : List ℕ) (p : Plan) → Bytes bytes → judge_of bytes ≡ accepted p → length bytes ≤ length out
    → (written_of p out ≡ Ok (length bytes)) × (buffer_of p out ≡ bytes ++ drop (length bytes) out)
