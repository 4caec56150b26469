-- "Then activities in order, place = activity": what the verdict over a plan's activities says, and that it is right.
-- Assumes nothing.
use Rattle.std.specs.Prelude.{◌≡◌, refl, ◌↔◌, Result, Ok, Err}
use Rattle.std.proofs.Common.{sym, subst, arith, below_more}
use Prim.Native.Nat.{ℕ, zero, suc, ◌+◌, ◌<◌}
use Rattle.std.proofs.Math.Decide.{dec_lt}
use Rattle.plan.specs.Plan.{resource_of, activity_of}
use Rattle.plan.specs.declared.Fault.{Fault}
use Rattle.plan.specs.declared.Plan.{Plan}
use Rattle.plan.specs.Verdict.{Verdict, faulty}
use Rattle.activity.specs.Number.{fault_of, or_next, verdict_from, activities_verdict}
use Rattle.activity.specs.Judged.{First, Judged}
use Rattle.activity.proofs.Laws.Theorem.{judged, meets_rule, only}
use Rattle.activity.specs.Activities.{MeetsAt, FirstAt}

abbrev pub JudgedPlan : Plan → Verdict → Type 0
JudgedPlan p (Ok u) = (i : ℕ) → i < p.activities → MeetsAt p i
JudgedPlan p (Err e) = FirstAt p e.fault e.place

module _ (p : Plan) where
  -- one activity, and what is known of those after it once it meets the rules
  one_more :
      (i : ℕ) (v : Verdict) (f : Result (Unit {0}) Fault) → i < p.activities → ((j : ℕ) → j < i → MeetsAt p j) → (MeetsAt p i → JudgedPlan p v)
      → Judged (resource_of p) (activity_of p i) f → JudgedPlan p (or_next f i v)
  one_more i v (Ok u) l h k m = k m
  one_more i v (Err f) l h k m = record { within = l; fault = m; before = h }

  from : (k i : ℕ) → i + k ≡ p.activities → ((j : ℕ) → j < i → MeetsAt p j) → JudgedPlan p (verdict_from p i k)
  unfolding verdict_from
  from zero i e h = λ j l. h j (omega arith)
  from (suc k) i e h =
      one_more i (verdict_from p (i + 1) k) (fault_of (resource_of p) (activity_of p i)) (omega arith) h
      (λ m. from k (i + 1) (omega arith) (below_more (MeetsAt p) i h m))
      (judged (resource_of p) (activity_of p i))

  pub judged_plan : JudgedPlan p (activities_verdict p)
  unfolding activities_verdict
  judged_plan = from p.activities 0 (omega arith) (λ j l. absurd (omega arith))

  -- a verdict that is right is the only one
  only_verdict : (v w : Verdict) → JudgedPlan p v → JudgedPlan p w → v ≡ w
  only_verdict (Ok u) (Ok v) h k = refl
  only_verdict (Ok u) (Err e) h k = absurd (k.fault.broken (meets_rule _ _ (h e.place k.within) e.fault))
  only_verdict (Err e) (Ok u) h k = absurd (h.fault.broken (meets_rule _ _ (k e.place h.within) e.fault))
  only_verdict (Err x) (Err y) h k =
      elim (dec_lt x.place y.place) [
        | yes l ↦ absurd (h.fault.broken (meets_rule _ _ (k.before x.place l) x.fault))
        | no n ↦
            elim (dec_lt y.place x.place) [
              | yes l ↦ absurd (k.fault.broken (meets_rule _ _ (h.before y.place l) y.fault))
              | no m ↦ let e : x.place ≡ y.place = omega arith in same x.fault y.fault x.place y.place e h.fault k.fault
            ]
      ]
    where
      same : (f g : Fault) (i j : ℕ) → i ≡ j → First (resource_of p) (activity_of p i) f → First (resource_of p) (activity_of p j) g → ◌≡◌ {A = Verdict} (faulty f i) (faulty g j)
      same f g i j e a b =
          let c : First (resource_of p) (activity_of p i) g = subst (λ (n : ℕ). First (resource_of p) (activity_of p n) g) (sym e) b in
          let d = only (resource_of p) (activity_of p i) (Err f) (Err g) a c in
          cc

  -- accepted iff every activity meets all rules
  pub accepted_iff : (activities_verdict p ≡ Ok tt) ↔ ((i : ℕ) → i < p.activities → MeetsAt p i)
  accepted_iff = (λ e. subst (JudgedPlan p) e judged_plan, λ h. only_verdict (activities_verdict p) (Ok tt) judged_plan h)

  -- refused iff that activity is the first at fault, with that fault
  pub refused_iff : (f : Fault) (i : ℕ) → (activities_verdict p ≡ faulty f i) ↔ FirstAt p f i
  refused_iff f i = (λ e. subst (JudgedPlan p) e judged_plan, λ h. only_verdict (activities_verdict p) (faulty f i) judged_plan h)
