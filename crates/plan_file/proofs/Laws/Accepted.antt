-- The reader accepts exactly the writing of what it reads, and no accepted file is longer than 34,433 bytes.
use Rattle.std.specs.Prelude.{◌≡◌, Result, Ok, Err, List, ◌↔◌, ℕ, ◌≤◌, length}
use Rattle.std.proofs.Common.{sym, ◌∙◌, arith}
use Rattle.std.proofs.Math.Path.{ap}
use Rattle.format.specs.Format.{Holds, print, result, read}
use Rattle.format.specs.Writing.{Bytes}
use Rattle.format.proofs.Laws.Writing.{Held, whole_read, written_read, length_within}
use Rattle.plan.specs.declared.FaultAt.{FaultAt}
use Rattle.plan.specs.declared.Plan.{Plan}
use Rattle.plan.specs.Limits.{FileRules}
use Rattle.plan.specs.Reading.{read_plan}
use Rattle.plan_file.specs.PlanFile.{fault_order, plan_file, plan_of}
use Rattle.plan_file.proofs.Laws.LinkPlan.{telling, plan_link}
use Rattle.plan_file.proofs.Laws.Known.{self}
use Rattle.plan_file.proofs.Laws.KnownPlan.{plan_accepted}
use Rattle.plan_file.proofs.Laws.HoldsPlan.{plan_iff}
use Rattle.plan_file.proofs.Laws.Longest.{plan_long}

pub told : (end : ℕ) (r : Result Plan FaultAt) (p : Plan) → telling end r ≡ read p end → r ≡ Ok p
told end (Ok q) p e = let z : q ≡ p = cc in ap (λ (x : Plan). Ok x) z
told end (Err f) p e = absurd (let z : ◌≡◌ {A = ℕ} 0 1 = cc in omega arith)

module _ (b : List ℕ) (bytes : Bytes b) (p : Plan) where
  -- p holds what the description asks, the bytes are its writing, and its spare room is zeros
  pub accepted_iff : (read_plan b ≡ Ok p) ↔ Held 1 fault_order b self plan_file p
  accepted_iff = (
    (λ e. (plan_accepted b bytes p).0 (plan_link b bytes ∙ ap (telling (length b)) e)),
    (λ h. told (length b) (read_plan b) p (sym (plan_link b bytes) ∙ (plan_accepted b bytes p).1 h)),
  )

  pub accepted_rules : read_plan b ≡ Ok p → FileRules p
  accepted_rules e = (plan_iff p).0 (accepted_iff.0 e).holds

  -- reading what was written gives what the description reads of it
  pub read_printed : Holds fault_order plan_file p → print plan_file p ≡ b → read_plan b ≡ Ok (result plan_file p)
  unfolding plan_of
  read_printed h e = told (length b) (read_plan b) (result plan_file p) (sym (plan_link b bytes) ∙ written_read 1 fault_order b 6 plan_file p h e)

  -- "No accepted plan exceeds 34,433 bytes."
  pub longest_file : read_plan b ≡ Ok p → length b ≤ 34433
  unfolding plan_of
  longest_file e =
      let q = plan_link b bytes ∙ ap (telling (length b)) e in
      omega (arith, length_within 1 fault_order b bytes 34433 plan_file plan_long 0 p (length b) (whole_read 1 fault_order b 6 plan_file p q))
