-- The order of checks: what it gives is what the checks say, read by cases; and what holds in each case holds of the whole.
use Rattle.std.specs.Prelude.{◌≡◌, Bool, cond, List, ℕ, Option, Some, None, Result, Ok, Err}
use Rattle.std.proofs.Math.Path.{refl}
use Rattle.std.proofs.Common.{sym, ◌∙◌, ap, arith}
use Rattle.std.proofs.Math.Bool.{true, false}
use Rattle.basis.proofs.Laws.Bools.{by_test}
use Rattle.plan.specs.declared.Node.{Node}
use Rattle.run_window.specs.declared.Entry.{Entry}
use Rattle.run_window.specs.declared.Found.{Found}
use Rattle.run_window.specs.Window.{is_held, is_started, is_overdue, is_late, starts_before, ends_before}
use Rattle.run_window.proofs.Laws.Tests.{overdue_tells, late_tells}
use Rattle.run_window.proofs.Laws.Order.{starts_order, ends_order}
use Rattle.run_window.proofs.Laws.Firsts.{by_first}
use Rattle.run_window.specs.Places.{Holds}
use Rattle.run_checks.specs.declared.Stop.{Stop}
use Rattle.run_checks.specs.declared.Refusal.{Refusal}
use Rattle.run_checks.specs.declared.Objection.{Objection}
use Rattle.run_checks.specs.declared.Moment.{Moment}
use Rattle.run_checks.specs.Order.{reading_then, is_below, first_overdue, first_late, timely_by, called_by, reported_by}
use Rattle.run_checks.specs.Inner.Report.{named, on_report}

-- ---- what the checks say

abbrev pub on_check : {A : Type 0} → Result (Option Found) Objection → (Objection → A) → A → A
on_check (Ok found) f go = go
on_check (Err o) f go = f o

module _ {A : Type 0} (f : Objection → A) (go : A) (found : Option Found) where
  reading_said : (below : Bool) (overdue late : Option Found)
      → reading_then below overdue late f go ≡ on_check (reading_then below overdue late Err (Ok found)) f go
  reading_said true overdue late = refl
  reading_said false (Some x) late = refl
  reading_said false None (Some x) = refl
  reading_said false None None = refl

  called_said : (limits : Bool) (halt : Option Stop) (m : Moment) (nodes : List Node) (w : List Entry)
      → called_by limits halt m nodes w f go ≡ on_check (called_by limits halt m nodes w Err (Ok found)) f go
  unfolding timely_by
  called_said false halt m nodes w = refl
  called_said true (Some s) m nodes w = refl
  called_said true None m nodes w = reading_said (is_below m) (first_overdue m w) (first_late m nodes w)

-- what is known where they object to nothing: neither 50 nor a kept stop, and what was found
pub record Passed (within : Bool) (halt : Option Stop) (first : Option Found) (k : Option Found) : Type 0 where
  pub limits : within ≡ true
  pub going : halt ≡ None
  pub found : k ≡ first

objects : {A : Type 0} (o : Objection) (k : Option Found) → Err o ≡ Ok k → A
objects o k q = absurd (never q)
  where
    never : {o : Objection} {k : Option Found} → Err o ≡ Ok k → ⊥
    never q = let z : ◌≡◌ {A = ℕ} 0 1 = cc in omega arith

abbrev found_by : Result (Option Found) Objection → Option Found
found_by (Ok found) = found
found_by (Err o) = None

module _ (limits : Bool) (halt : Option Stop) (m : Moment) (nodes : List Node) (w : List Entry) (found : Option Found) (check : Result (Option Found) Objection) (said : check ≡ called_by limits halt m nodes w Err (Ok found)) where
  module _ {A : Type 0} (f : Objection → A) (go : A) where
    given : called_by limits halt m nodes w f go ≡ on_check check f go
    given = called_said f go found limits halt m nodes w ∙ ap (λ (c : Result (Option Found) Objection). on_check c f go) (sym said)

    pub called_goes : (k : Option Found) → check ≡ Ok k → called_by limits halt m nodes w f go ≡ go
    called_goes k q = given ∙ ap (λ (c : Result (Option Found) Objection). on_check c f go) q

    pub called_objects : (o : Objection) → check ≡ Err o → called_by limits halt m nodes w f go ≡ f o
    called_objects o q = given ∙ ap (λ (c : Result (Option Found) Objection). on_check c f go) q

reading_passed : (below : Bool) (overdue late found k : Option Found) → reading_then below overdue late Err (Ok found) ≡ Ok k → k ≡ found
reading_passed true overdue late found k q = objects (Objection.Refuses Refusal.ReadingBelow) k q
reading_passed false (Some x) late found k q = objects (Objection.Stops (Stop.Overdue x.entry.position x.entry.node)) k q
reading_passed false None (Some x) found k q = objects (Objection.Stops (Stop.Late x.entry.position x.entry.node)) k q
reading_passed false None None found k q = ap found_by (sym q)

pub passed : (limits : Bool) (halt : Option Stop) (m : Moment) (nodes : List Node) (w : List Entry) (found k : Option Found) → called_by limits halt m nodes w Err (Ok found) ≡ Ok k → Passed limits halt found k
unfolding timely_by
passed false halt m nodes w found k q = objects (Objection.Refuses Refusal.OutOfLimits) k q
passed true (Some s) m nodes w found k q = objects (Objection.Keeps s) k q
passed true None m nodes w found k q = record {
  limits = refl;
  going = refl;
  found = reading_passed (is_below m) (first_overdue m w) (first_late m nodes w) found k q;
}

-- ---- what a report names

module _ {A : Type 0} (f : ℕ → Entry → A) (g : Refusal → A) where
  by_start_lem : (i : ℕ) (e : Entry) (b : Bool) → cond b (f i e) (g Refusal.NotStarted) ≡ on_report (cond b (named i e) (Err Refusal.NotStarted)) f g
  by_start_lem i e true = refl
  by_start_lem i e false = refl

  pub reported_said : (found : Option Found) → reported_by found f g ≡ on_report (reported_by found named Err) f g
  reported_said None = refl
  reported_said (Some x) = by_start_lem x.place x.entry (is_started x.entry.phase)

-- ---- by cases

-- of 51, 42 and 41; each stop names a node that stands in the window
pub by_timely : {A : Type 0} (P : A → Type 0) (m : Moment) (nodes : List Node) (w : List Entry) (f : Objection → A) (go : A)
    → P (f (Objection.Refuses Refusal.ReadingBelow))
    → ((i : ℕ) (e : Entry) → Holds w i e → P (f (Objection.Stops (Stop.Overdue e.position e.node))))
    → ((i : ℕ) (e : Entry) → Holds w i e → P (f (Objection.Stops (Stop.Late e.position e.node))))
    → P go
    → P (timely_by m nodes w f go)
unfolding timely_by
by_timely P m nodes w f go below overdue late rest =
    by_test P (is_below m) _ _ (λ b. below) λ b.
    by_first (is_overdue m.psi m.t) ends_before ends_order w P _ _
    (λ i e q. overdue i e (record { entry = q.stands; held = ap is_held ((overdue_tells m.psi m.t e).0 q.passes).0 })) λ n.
    by_first (is_late m.psi m.slack m.t) (starts_before nodes) (starts_order nodes) w P _ _
    (λ i e q. late i e (record { entry = q.stands; held = ap is_held ((late_tells m.psi m.t e m.slack).0 q.passes).0 })) (λ n. rest)
