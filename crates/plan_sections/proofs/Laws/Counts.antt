-- No answer of the section of events counts more than 16 of them.
use Rattle.std.specs.Prelude.{◌≡◌, refl, List, Result, Ok, Err, set, replicate}
use Prim.Native.Nat.{ℕ, zero, suc, ◌+◌, ◌≤◌}
use Rattle.std.proofs.Common.{subst, arith}
use Rattle.wire.specs.Map.{bit}
use Rattle.plan.specs.Fields.{Read, found, and_then, byte_at, optional_count, numbers_then}
use Rattle.plan.specs.Sections.{outcomes_at, events_at}
use Rattle.plan.specs.declared.Fault.{Fault}
use Rattle.plan.specs.declared.FaultAt.{FaultAt}
use Rattle.plan.specs.declared.fields.Events.{Events}
use Rattle.plan_fields.proofs.Laws.Read.{count_most}

-- what holds of each answer holds of the loop over numbers of one byte
module _ {A : Type 0} (P : Result A FaultAt → Type 0) (low below : ℕ) (wrong : Fault) (b : List ℕ) (follow : ℕ → List ℕ → Result A FaultAt) (good : (at : ℕ) (values : List ℕ) → P (follow at values)) (bad : (e : FaultAt) → P (Err e)) where
  on_one : (r : Read ℕ) (g : ℕ → ℕ → Result A FaultAt) → ((x next : ℕ) → P (g x next)) → P (and_then r g)
  on_one (Ok x) g h = h x.0 x.1
  on_one (Err e) g h = bad e

  pub on_numbers : (k at i : ℕ) (values : List ℕ) → P (numbers_then low below wrong b follow k at i values)
  unfolding numbers_then
  on_numbers zero at i values = good at values
  on_numbers (suc k) at i values =
      on_one (byte_at low below wrong b at) (λ x next. numbers_then low below wrong b follow k next (i + 1) (set values i x))
      (λ x next. on_numbers k next (i + 1) (set values i x))

abbrev Few : Read Events → Type 0
Few (Ok x) = x.0.count ≤ 16
Few (Err e) = Unit {0}

few : (m : ℕ) (b : List ℕ) (at : ℕ) → Few (events_at m b at)
unfolding events_at outcomes_at
few m b at = go (optional_count 16 (bit 2 m) b at) refl
  where
    go : (r : Read ℕ) → optional_count 16 (bit 2 m) b at ≡ r → Few (and_then r (λ count next. outcomes_at count b next))
    go (Ok x) e =
        let h = count_most 16 (bit 2 m) b at x.0 x.1 e in
        on_numbers Few 1 9 Fault.Count b (λ after outcomes. found (record { count = x.0; outcomes = outcomes }) after) (λ k l. h) (λ e. tt) x.0 x.1 0 (replicate 16 0)
    go (Err e) is = tt

pub events_most : (m : ℕ) (b : List ℕ) (at : ℕ) (x : Events) (next : ℕ) → events_at m b at ≡ Ok (x, next) → x.count ≤ 16
events_most m b at x next e = subst Few e (few m b at)

-- what an answer of the section counts: a refusal counts none
abbrev pub counted : Read Events → ℕ
counted (Ok x) = x.0.count
counted (Err e) = 0

pub events_most_of_answer : (m : ℕ) (b : List ℕ) (at : ℕ) → counted (events_at m b at) ≤ 16
events_most_of_answer m b at = go (events_at m b at) (few m b at)
  where
    go : (r : Read Events) → Few r → counted r ≤ 16
    go (Ok x) h = h
    go (Err e) h = omega arith
