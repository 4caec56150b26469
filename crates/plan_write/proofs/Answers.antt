-- Each answer of the writer, and the buffer that goes with it.
use Rattle.std.specs.Prelude.{Ok, Err}
use mathlib.Core.Path.{◌≡◌, ◌∙◌, ap}
use mathlib.Core.Bool.{true, false}
use mathlib.Core.List.{List}
use Prim.Native.Nat.{ℕ, ◌≤◌, ◌<◌}
use native.Mathlib.Nat.{zero-add}
use native.Mathlib.Omega.{arith}
use lib.ListN.{length}
use lib.Seq.{sets-eq}
use borrow.Author.Tests.{le-leb, lt-leb}
use Rattle.format.specs.Format.{print, keeps}
use Rattle.plan.specs.declared.Plan.{Plan}
use Rattle.plan_file.specs.PlanFile.{fault_order, plan_file}
use Rattle.wire.specs.Puts.{Puts}
use Rattle.plan_write.specs.Writing.{written_of, buffer_of}
use Rattle.plan_write.specs.declared.NotWritten.{NotWritten}

module _ (p : Plan) (out : List ℕ) where
  pub breaks_rule : keeps fault_order plan_file p ≡ false → (Err NotWritten.BreaksRule ≡ written_of p out) × (out ≡ buffer_of p out)
  unfolding written_of buffer_of
  breaks_rule e = (rw e, rw e)

  module _ (ok : keeps fault_order plan_file p ≡ true) (scratch scratch' : List ℕ) (size : ℕ) (s : Puts scratch 0 (print plan_file p) scratch' size) where
    size_is : size ≡ length (print plan_file p)
    size_is = omega (arith, s.past)

    pub too_short : length out < size → (Err NotWritten.TooShort ≡ written_of p out) × (out ≡ buffer_of p out)
    unfolding written_of buffer_of
    too_short h =
        let e = lt-leb (length (print plan_file p)) (length out) (omega (arith, size_is)) in
        (rw (ok, e), rw (ok, e))

    pub wrote : size ≤ length out → (after : List ℕ) (end : ℕ) → Puts out 0 (print plan_file p) after end → (Ok end ≡ written_of p out) × (after ≡ buffer_of p out)
    unfolding written_of buffer_of
    wrote h after end w =
        let e = le-leb (length (print plan_file p)) (length out) (omega (arith, size_is)) in
        let z : end ≡ length (print plan_file p) = omega (arith, w.past) in (
          rw (ok, e) (ap Ok z),
          rw (ok, e) (w.left ∙ sets-eq (print plan_file p) out 0 (omega (arith, size_is)) ∙ rw zero-add),
        )
