-- "While reading, first faulty field from the front, place = its byte offset ..; within a field the order below": 1 to 8, over
-- what `judge` answers. The fields, their order and their faults are those of the file's description (planfile/PlanFile).
use Rattle.std.specs.Prelude.{◌≡◌, List, ◌↔◌, ℕ, ◌+◌, ◌≤◌, ◌<◌, length}
use Rattle.plan.specs.Fault.{number_of}
use Rattle.plan.specs.Fields.{faulty}
use Rattle.plan.specs.Reading.{read_plan}
use Rattle.plan.specs.declared.Fault.{Fault}
use Rattle.plan.specs.Verdict.{faulty}
use Rattle.format.specs.Format.{FirstFault, Refuses}
use Rattle.format.specs.Writing.{Agree}
use Rattle.plan_file.specs.PlanFile.{fault_order, plan_file}
use Rattle.judge.specs.Judge.{judge_of}
use Rattle.demands.specs.Accepted.{Bytes}

-- the file is refused with f at k, and f is one of 1 to 8
abbrev pub Unread : List ℕ → Fault → ℕ → Type 0
Unread b f k = ((judge_of b).verdict ≡ faulty f k) × (number_of f ≤ 8)

-- reading refuses with exactly the first fault of the first faulty field, or with 6 where the fields end before the bytes do
abbrev pub StatementRefusedExactly : Type 0
StatementRefusedExactly =
    (b : List ℕ) (f : Fault) (k : ℕ) → Bytes b → (read_plan b ≡ faulty f k) ↔ Refuses 1 fault_order 6 b plan_file (number_of f) k

-- and so does `judge` with 1 to 8: what follows reading answers 11 to 26 alone
abbrev pub StatementUnread : Type 0
StatementUnread = (b : List ℕ) (f : Fault) (k : ℕ) → Bytes b → Unread b f k ↔ Refuses 1 fault_order 6 b plan_file (number_of f) k

-- the place lies in the file, or at its end
abbrev pub StatementPlaceIn : Type 0
StatementPlaceIn = (b : List ℕ) (f : Fault) (k : ℕ) → Bytes b → Unread b f k → k ≤ length b

-- what the file holds past the faulty field changes nothing: c agrees with b up to that field's end
abbrev pub StatementLocal : Type 0
StatementLocal =
    (b c : List ℕ) (f : Fault) (k : ℕ) → Bytes b → Bytes c → (r : FirstFault 1 fault_order b plan_file 0 (number_of f) k)
    → k + r.width ≤ length b → Agree (k + r.width) b c → Unread c f k

-- of a field that is cut off it is that alone: c agrees with b up to the field's place, and ends inside the field
abbrev pub StatementCut : Type 0
StatementCut =
    (b c : List ℕ) (f : Fault) (k : ℕ) → Bytes b → Bytes c → (r : FirstFault 1 fault_order b plan_file 0 (number_of f) k)
    → length c < k + r.width → Agree k b c → Unread c Fault.Ends k

-- and of bytes left over it is their standing there alone
abbrev pub StatementLeftOver : Type 0
StatementLeftOver =
    (b c : List ℕ) (k : ℕ) → Bytes b → Bytes c → Unread b Fault.LeftOver k → Agree k b c → k < length c → Unread c Fault.LeftOver k

-- where c agrees with b up to the place of b's fault, c is refused no earlier
abbrev pub StatementInFront : Type 0
StatementInFront =
    (b c : List ℕ) (f g : Fault) (k j : ℕ) → Bytes b → Bytes c → Unread b f k → Agree k b c → Unread c g j → k ≤ j
