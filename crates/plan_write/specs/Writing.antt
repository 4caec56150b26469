-- "Writing one leaves a lent buffer's bytes after it unchanged; a plan that breaks a rule here gives 50, place 0, then a
-- buffer too short 36, place 0."
use Rattle.std.specs.Prelude.{cond, List, ◌++◌, ℕ, length, drop, leb, Result, Ok, Err}
use Rattle.format.specs.Format.{print, keeps}
use Rattle.plan.specs.declared.Plan.{Plan}
use Rattle.plan_file.specs.PlanFile.{fault_order, plan_file}
use Rattle.plan_write.specs.declared.NotWritten.{NotWritten}

-- the number of each refusal; its place is 0
abbrev pub number_of : NotWritten → ℕ
number_of NotWritten.BreaksRule = 50
number_of NotWritten.TooShort = 36

abbrev pub place_of : NotWritten → ℕ
place_of n = 0

-- what the writer answers: how many bytes it wrote, or why it wrote none
unfoldable pub written_of : Plan → List ℕ → Result ℕ NotWritten
written_of p out =
    cond (keeps fault_order plan_file p)
    (cond (leb (length (print plan_file p)) (length out)) (Ok (length (print plan_file p))) (Err NotWritten.TooShort))
    (Err NotWritten.BreaksRule)

-- the buffer that it leaves: the bytes, and everything after them unchanged; a refusal leaves it as it was
unfoldable pub buffer_of : Plan → List ℕ → List ℕ
buffer_of p out =
    cond (keeps fault_order plan_file p) (cond (leb (length (print plan_file p)) (length out)) (print plan_file p ++ drop (length (print plan_file p)) out) out) out
