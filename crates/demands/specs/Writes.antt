-- Writing a plan into a lent buffer: "a plan that breaks a rule here gives 50, place 0, then a buffer too short 36, place 0",
-- each in its condition and in no other, what it leaves in the buffer, and the way back.
use Rattle.std.specs.Prelude.{◌≡◌, List, ◌↔◌, ℕ, ◌≤◌, ◌<◌, length, take, drop, Result, Ok, Err, IsOkAnd}
use Rattle.plan.specs.Reading.{read_plan}
use Rattle.plan.specs.declared.Plan.{Plan}
use Rattle.format.specs.Format.{Holds, print}
use Rattle.plan_file.specs.PlanFile.{fault_order, plan_file}
use Rattle.plan_write.specs.Writing.{number_of, place_of, written_of, buffer_of}
use Rattle.plan_write.specs.declared.NotWritten.{NotWritten}
use Rattle.demands.specs.Alike.{SamePlan}

pub data Writes (p : Plan) (out : List ℕ) : Result ℕ NotWritten → Type 0 where
  breaks : (Holds fault_order plan_file p → ⊥) → Writes p out (Err NotWritten.BreaksRule)
  short : Holds fault_order plan_file p → length out < length (print plan_file p) → Writes p out (Err NotWritten.TooShort)
  written : Holds fault_order plan_file p → length (print plan_file p) ≤ length out → Writes p out (Ok (length (print plan_file p)))

abbrev pub StatementWriting : Type 0
StatementWriting = (p : Plan) (out : List ℕ) (w : Result ℕ NotWritten) → (written_of p out ≡ w) ↔ Writes p out w

-- a refusal leaves the buffer as it was
abbrev pub StatementNotWritten : Type 0
StatementNotWritten = (p : Plan) (out : List ℕ) (r : NotWritten) → written_of p out ≡ Err r → buffer_of p out ≡ out

-- the bytes written are the plan's; the buffer is as long as before, and its bytes after them are unchanged
abbrev pub StatementBuffer : Type 0
StatementBuffer =
    (p : Plan) (out : List ℕ) (n : ℕ) → written_of p out ≡ Ok n
    → (take n (buffer_of p out) ≡ print plan_file p) × (drop n (buffer_of p out) ≡ drop n out) × (length (buffer_of p out) ≡ length out)

-- what was written is read as the same plan
abbrev pub StatementReadBack : Type 0
StatementReadBack =
    (p : Plan) (out : List ℕ) (n : ℕ) → written_of p out ≡ Ok n
    → IsOkAnd (read_plan (take n (buffer_of p out))) (SamePlan p)

-- ---- by number and place

pub record NotWrittenAs (p : Plan) (out : List ℕ) (number place : ℕ) : Type 0 where
  pub refusal : NotWritten
  pub answered : written_of p out ≡ Err refusal
  pub numbered : number_of refusal ≡ number
  pub placed : place_of refusal ≡ place

-- 50, place 0, iff a rule of the file is broken; 36, place 0, iff none is and the buffer is too short; no other number
pub record WritingNumbers (p : Plan) (out : List ℕ) : Type 0 where
  pub number50 : NotWrittenAs p out 50 0 ↔ (Holds fault_order plan_file p → ⊥)
  pub number36 : NotWrittenAs p out 36 0 ↔ Holds fault_order plan_file p × (length out < length (print plan_file p))
  pub none : (n place : ℕ) → NotWrittenAs p out n place → (n ≡ 50 → ⊥) → n ≡ 36

abbrev pub StatementWritingNumbers : Type 0
StatementWritingNumbers = (p : Plan) (out : List ℕ) → WritingNumbers p out
