-- "While reading, first faulty field from the front, place = its byte offset; .. within a field the order below": of the reader.
use Rattle.std.specs.Prelude.{◌≡◌, Result, Ok, Err, List, ◌↔◌, ℕ, ◌+◌, ◌≤◌, length}
use Rattle.std.proofs.Common.{sym, ◌∙◌, arith}
use Rattle.std.proofs.Math.Path.{ap}
use Rattle.format.specs.Format.{refused, front, FirstFault, Refuses, faulty, more}
use Rattle.format.proofs.Laws.Reading.{all_refused_iff, fault_found, reached_in}
use Rattle.format.specs.Writing.{Bytes, Agree}
use Rattle.format.proofs.Laws.Writing.{refused_local}
use Rattle.plan.specs.declared.Fault.{Fault}
use Rattle.plan.specs.declared.FaultAt.{FaultAt}
use Rattle.plan.specs.declared.Plan.{Plan}
use Rattle.plan.specs.Fault.{number_of}
use Rattle.plan.proofs.Laws.Faults.{same_fault}
use Rattle.plan.specs.Fields as fields
use Rattle.plan.specs.Reading.{read_plan}
use Rattle.plan_file.specs.PlanFile.{fault_order, plan_file, plan_of}
use Rattle.plan_file.proofs.Laws.LinkPlan.{telling, plan_link}

told : (b : List ℕ) (r : Result Plan FaultAt) (f : Fault) (k : ℕ) → telling (length b) r ≡ refused (number_of f) k → r ≡ fields.faulty f k
told b (Ok p) f k e = absurd (let z : ◌≡◌ {A = ℕ} 0 1 = cc in omega arith)
told b (Err g) f k e =
    let x : number_of g.fault ≡ number_of f = cc in
    let y : g.place ≡ k = cc in
    let z = same_fault g.fault f x in
    ap (λ (h : Fault). fields.faulty {A = Plan} h g.place) z ∙ ap (λ (j : ℕ). fields.faulty {A = Plan} f j) y

-- "every number is its own field, the final bits are one": the fields are those of plan_file
abbrev pub PlanRefused : List ℕ → ℕ → ℕ → Type 0
PlanRefused b = Refuses 1 fault_order 6 b plan_file

module _ (b : List ℕ) (bytes : Bytes b) (f : Fault) (k : ℕ) where
  -- a number is answered exactly where it is the first fault of the first faulty field; 6 where bytes are left over
  pub refused_exactly : (read_plan b ≡ fields.faulty f k) ↔ PlanRefused b (number_of f) k
  unfolding plan_of
  refused_exactly = (
    (λ e. (all_refused_iff 1 fault_order 6 b plan_file (number_of f) k).0 (plan_link b bytes ∙ ap (telling (length b)) e)),
    (λ r. told b (read_plan b) f k (sym (plan_link b bytes) ∙ (all_refused_iff 1 fault_order 6 b plan_file (number_of f) k).1 r)),
  )

  -- the place lies in the file
  pub place_in : read_plan b ≡ fields.faulty f k → k ≤ length b
  place_in e = go (number_of f) (refused_exactly.0 e)
    where
      go : (n : ℕ) → PlanRefused b n k → k ≤ length b
      go n (faulty r) = reached_in fault_order b plan_file _ k r.reached
      go n (more a r l) = omega arith

-- what the file holds past the faulty field changes nothing: c agrees with b up to that field's end
module _ (b c : List ℕ) (bytes : Bytes b) (others : Bytes c) (f : Fault) (k : ℕ) where
  pub local : (r : FirstFault 1 fault_order b plan_file 0 (number_of f) k) → k + r.width ≤ length b → Agree (k + r.width) b c → read_plan c ≡ fields.faulty f k
  local r h g =
      (refused_exactly c others f k).1 (faulty (fault_found 1 fault_order c plan_file 0 plan_file 0 front (number_of f) k (refused_local 1 fault_order b c plan_file 0 (number_of f) k r h g)))
