-- The verdict over a plan's activities, one activity at a time. Assumes nothing.
use mathlib.Core.Path.{◌≡◌, sym, ap, ◌∙◌}
use Prim.Native.Nat.{ℕ, suc, ◌+◌, ◌-◌, ◌<◌, ◌≤◌}
use native.Mathlib.Omega.{arith}
use Rattle.std.specs.Prelude.{Result, Ok, Err}
use Rattle.plan.specs.Plan.{resource_of, nodes_of, activity_of}
use Rattle.plan.specs.declared.Activity.{Activity}
use Rattle.plan.specs.declared.Fault.{Fault}
use Rattle.plan.specs.declared.Plan.{Plan}
use Rattle.plan.specs.Verdict.{faulty}
use Rattle.activity.specs.Inner.Copied.{copied}
use Rattle.activity.proofs.Laws.Copied.{nodes_copied}
use Rattle.activity.specs.Number.{fault_of, or_next, verdict_from, activities_verdict}

module _ (p : Plan) where
  pub verdict_start : activities_verdict p ≡ verdict_from p 0 (p.activities - 0)
  unfolding activities_verdict
  verdict_start = let e : p.activities ≡ p.activities - 0 = omega arith in ap (verdict_from p 0) e

  pub verdict_end : (i n : ℕ) → n ≤ i → verdict_from p i (n - i) ≡ Ok tt
  unfolding verdict_from
  verdict_end i n h = let e : n - i ≡ 0 = omega arith in ap (verdict_from p i) e

  step : (i n : ℕ) → i < n → (f : Result (Unit {0}) Fault) → fault_of (resource_of p) (activity_of p i) ≡ f → verdict_from p i (n - i) ≡ or_next f i (verdict_from p (i + 1) (n - (i + 1)))
  unfolding verdict_from
  step i n h f e =
      let z : n - i ≡ suc (n - (i + 1)) = omega arith in
      ap (verdict_from p i) z ∙ ap (λ (g : Result (Unit {0}) Fault). or_next g i (verdict_from p (i + 1) (n - (i + 1)))) e

  pub verdict_next : (i n : ℕ) → i < n → fault_of (resource_of p) (activity_of p i) ≡ Ok tt → verdict_from p i (n - i) ≡ verdict_from p (i + 1) (n - (i + 1))
  verdict_next i n h e = step i n h (Ok tt) e

  pub verdict_bad : (i n : ℕ) → i < n → (f : Fault) → fault_of (resource_of p) (activity_of p i) ≡ Err f → verdict_from p i (n - i) ≡ faulty f i
  verdict_bad i n h f e = step i n h (Err f) e

  -- the fault of the copy of an activity is that of the plan's
  pub fault_copied :
      (i : ℕ) (x : Activity) (f : Result (Unit {0}) Fault) → x ≡ copied p i → f ≡ fault_of (resource_of p) (nodes_of x)
      → fault_of (resource_of p) (activity_of p i) ≡ f
  fault_copied i x f e h = sym (h ∙ ap (λ (y : Activity). fault_of (resource_of p) (nodes_of y)) e ∙ ap (fault_of (resource_of p)) (nodes_copied p i))
