-- `unopened_back`, `same_refusal`: number and place tell why an opening is refused.
use Rattle.std.specs.Prelude.{◌≡◌, refl, cond, ℕ, eqb}
use Rattle.std.proofs.Common.{sym, ap, ◌∙◌, arith, ne_eqb}
use Rattle.plan.specs.Fault.{number_of}
use Rattle.plan.proofs.Laws.Faults.{fault_at, fault_at_lem, no_fault}
use Rattle.plan.specs.declared.Fault.{Fault}
use Rattle.run.specs.declared.Unopened.{Unopened}
use Rattle.run.specs.Numbers.{open_number, open_place}

-- the refusal of a number and a place
abbrev pub unopened_of : ℕ → ℕ → Unopened
unopened_of n place =
    cond (eqb n 30) Unopened.Availabilities
    (cond (eqb n 31) Unopened.Time
    (cond (eqb n 32) Unopened.Slack
    (cond (eqb n 33) (Unopened.Short place)
    (cond (eqb n 43) Unopened.Full
    (cond (eqb n 44) Unopened.Beyond
    (Unopened.Plan (fault_at n) place))))))

fault_back : (f : Fault) (place : ℕ) → unopened_of (number_of f) place ≡ Unopened.Plan f place
fault_back f place =
    rw (
      ne_eqb (number_of f) 30 (no_fault f 30 refl (λ e. omega arith)),
      ne_eqb (number_of f) 31 (no_fault f 31 refl (λ e. omega arith)),
      ne_eqb (number_of f) 32 (no_fault f 32 refl (λ e. omega arith)),
      ne_eqb (number_of f) 33 (no_fault f 33 refl (λ e. omega arith)),
      ne_eqb (number_of f) 43 (no_fault f 43 refl (λ e. omega arith)),
      ne_eqb (number_of f) 44 (no_fault f 44 refl (λ e. omega arith)),
    ) (ap (λ (g : Fault). Unopened.Plan g place) (fault_at_lem f))

pub unopened_back : (u : Unopened) → unopened_of (open_number u) (open_place u) ≡ u
unopened_back (Unopened.Plan f place) = fault_back f place
unopened_back Unopened.Availabilities = refl
unopened_back Unopened.Time = refl
unopened_back Unopened.Slack = refl
unopened_back (Unopened.Short a) = refl
unopened_back Unopened.Beyond = refl
unopened_back Unopened.Full = refl

-- two refusals with one number and one place are the same
pub same_refusal : (u v : Unopened) → open_number u ≡ open_number v → open_place u ≡ open_place v → u ≡ v
same_refusal u v n p = sym (unopened_back u) ∙ rw (n, p) (unopened_back v)
