-- Writing what was read gives back the bytes.
use Rattle.std.specs.Prelude.{◌≡◌, true, List, ◌++◌, ℕ, ◌≤◌, length, drop}
use Rattle.std.proofs.Common.{◌∙◌, ap}
use borrow.Author.Tests.{le-leb}
use Rattle.format.specs.Format.{print, keeps}
use Rattle.format.specs.Writing.{Bytes}
use Rattle.format.proofs.Laws.Format.{keeps_iff}
use Rattle.plan.specs.declared.Plan.{Plan}
use Rattle.plan.specs.Reading.{read_plan}
use Rattle.plan_file.specs.PlanFile.{fault_order, plan_file}
use Rattle.plan_file.proofs.Laws.Accepted.{accepted_iff}
use Rattle.plan_write.specs.Writing.{written_of, buffer_of}
use Rattle.std.specs.Prelude.{Ok}

module _ (p : Plan) (out : List ℕ) (rules : keeps fault_order plan_file p ≡ true) (room : length (print plan_file p) ≤ length out) where
  written : written_of p out ≡ Ok (length (print plan_file p))
  unfolding written_of
  written = rw (rules, le-leb (length (print plan_file p)) (length out) room)

  buffer : buffer_of p out ≡ print plan_file p ++ drop (length (print plan_file p)) out
  unfolding buffer_of
  buffer = rw (rules, le-leb (length (print plan_file p)) (length out) room)

-- a plan that was read from b is written as b
pub written_back : (b out : List ℕ) (p : Plan) → Bytes b → read_plan b ≡ Ok p → length b ≤ length out
    → (written_of p out ≡ Ok (length b)) × (buffer_of p out ≡ b ++ drop (length b) out)
written_back b out p bytes e room =
    let h = (accepted_iff b bytes p).0 e in
    let rules = (keeps_iff fault_order plan_file p).1 h.holds in
    let w : print plan_file p ≡ b = h.written in
    let room' : length (print plan_file p) ≤ length out = rw w room in (
      written p out rules room' ∙ ap (λ (x : List ℕ). Ok (length x)) w,
      buffer p out rules room' ∙ ap (λ (x : List ℕ). x ++ drop (length x) out) w,
    )
