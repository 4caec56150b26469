-- Different cases of what a state does next, of a chosen transition and of an input are different, and equal ones hold the same.
use Rattle.std.specs.Prelude.{◌≡◌, ℕ, Some}
use Rattle.std.proofs.Common.{arith}
use Rattle.plan.specs.declared.Input.{Input}
use Rattle.automaton.specs.declared.Next.{Next}

-- ---- what a state does next

pub goes_same : {t u : ℕ} → Next.Goes t ≡ Next.Goes u → t ≡ u
goes_same e = cc

pub waits_same : {t u : ℕ} → Next.Waits t ≡ Next.Waits u → t ≡ u
waits_same e = cc

pub ended_goes : {A : Type 0} {t : ℕ} → Next.Ended ≡ Next.Goes t → A
ended_goes e = absurd (let z : ◌≡◌ {A = ℕ} 0 1 = cc in omega arith)

pub ended_waits : {A : Type 0} {e : ℕ} → Next.Ended ≡ Next.Waits e → A
ended_waits e = absurd (let z : ◌≡◌ {A = ℕ} 0 1 = cc in omega arith)

pub goes_waits : {A : Type 0} {t e : ℕ} → Next.Goes t ≡ Next.Waits e → A
goes_waits e = absurd (let z : ◌≡◌ {A = ℕ} 0 1 = cc in omega arith)

pub waits_goes : {A : Type 0} {e t : ℕ} → Next.Waits e ≡ Next.Goes t → A
waits_goes e = absurd (let z : ◌≡◌ {A = ℕ} 0 1 = cc in omega arith)

-- ---- a chosen transition

pub move_same : {t u : ℕ} → Some t ≡ Some u → t ≡ u
move_same e = cc

-- ---- an input

pub unlike : {A : Type 0} {e o : ℕ} → Input.Nothing ≡ Input.Outcome e o → A
unlike h = absurd (let z : ◌≡◌ {A = ℕ} 0 1 = cc in omega arith)

pub same_event : {e o f q : ℕ} → Input.Outcome e o ≡ Input.Outcome f q → e ≡ f
same_event h = cc

pub same_outcome : {e o f q : ℕ} → Input.Outcome e o ≡ Input.Outcome f q → o ≡ q
same_outcome h = cc
