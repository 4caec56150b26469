-- A test tells whether a statement holds, and the tests of `Tests` tell what their names say.
use Rattle.std.specs.Prelude.{◌≡◌, refl, Bool, not, List, [], ◌∷◌, ℕ}
use Rattle.std.proofs.Common.{ap, subst, inl, arith}
use Rattle.basis.specs.Lists.{Among}
use Rattle.basis.specs.Inner.Tells.{Tells, holds, fails}
use Rattle.basis.proofs.Laws.Tells.{tells_iff, tells_eqb}
use Rattle.plan.specs.declared.Kind.{Kind}
use Rattle.activity.specs.Tests.{implies, none, is_action, is_claim, is_release, is_event, of_action, of_claim, of_release, of_event}

pub tells_implies : {b c : Bool} {P Q : Type 0} → Tells b P → Tells c Q → Tells (implies b c) (P → Q)
tells_implies (holds p) (holds q) = holds (λ x. q)
tells_implies (holds p) (fails q) = fails (λ f. q (f p))
tells_implies (fails p) q = holds (λ x. absurd (p x))

pub tells_none : (ms : List ℕ) → Tells (none ms) ((m : ℕ) → Among m ms → ⊥)
tells_none [] = holds (λ m h. h)
tells_none (m ∷ ms) = fails (λ f. f m (inl refl))

pub tells_any : (ms : List ℕ) → Tells (not (none ms)) ((m : ℕ) × Among m ms)
tells_any [] = fails (λ h. h.1)
tells_any (m ∷ ms) = holds (m, inl refl)

-- a sort of nodes: `is r` tests for it with the number r, and `of k f` tests f of k's number where k is of the sort
pub record Sort (is : ℕ → Kind → Bool) (of : Kind → (ℕ → Bool) → Bool) (K : ℕ → Kind → Type 0) : Type 1 where
  pub tells_is : (r : ℕ) (k : Kind) → Tells (is r k) (K r k)
  pub tells_of : (k : Kind) (f : ℕ → Bool) (P : ℕ → Type 0) → ((r : ℕ) → Tells (f r) (P r)) → Tells (of k f) ((r : ℕ) → K r k → P r)

pub differ : ◌≡◌ {A = ℕ} 0 1 → ⊥
differ e = omega arith

pub actions : Sort is_action of_action (λ p k. (x : ℕ) × (k ≡ Kind.Action x p))
actions = record { tells_is = is; tells_of = of }
  where
    is : (p : ℕ) (k : Kind) → Tells (is_action p k) ((x : ℕ) × (k ≡ Kind.Action x p))
    is p (Kind.Action x q) = tells_iff (λ e. (x, ap (Kind.Action x) e), λ s. let e = s.1 in cc) (tells_eqb q p)
    is p (Kind.Claim r) = fails (λ s. let e = s.1 in differ (cc))
    is p (Kind.Release r) = fails (λ s. let e = s.1 in differ (cc))
    is p (Kind.Event r) = fails (λ s. let e = s.1 in differ (cc))

    of : (k : Kind) (f : ℕ → Bool) (P : ℕ → Type 0) → ((r : ℕ) → Tells (f r) (P r)) → Tells (of_action k f) ((r : ℕ) → (x : ℕ) × (k ≡ Kind.Action x r) → P r)
    of (Kind.Action x p) f P h =
        tells_iff (λ g r s. let e = s.1 in let q : p ≡ r = cc in subst P q g, λ g. g p (x, refl)) (h p)
    of (Kind.Claim q) f P h = holds (λ r s. let e = s.1 in absurd (differ (cc)))
    of (Kind.Release q) f P h = holds (λ r s. let e = s.1 in absurd (differ (cc)))
    of (Kind.Event q) f P h = holds (λ r s. let e = s.1 in absurd (differ (cc)))

pub claims : Sort is_claim of_claim (λ r k. k ≡ Kind.Claim r)
claims = record { tells_is = is; tells_of = of }
  where
    is : (p : ℕ) (k : Kind) → Tells (is_claim p k) (k ≡ Kind.Claim p)
    is p (Kind.Action x q) = fails (λ e. differ (cc))
    is p (Kind.Claim r) = tells_iff (ap Kind.Claim, λ e. cc) (tells_eqb r p)
    is p (Kind.Release r) = fails (λ e. differ (cc))
    is p (Kind.Event r) = fails (λ e. differ (cc))

    of : (k : Kind) (f : ℕ → Bool) (P : ℕ → Type 0) → ((r : ℕ) → Tells (f r) (P r)) → Tells (of_claim k f) ((r : ℕ) → k ≡ Kind.Claim r → P r)
    of (Kind.Action x p) f P h = holds (λ r e. absurd (differ (cc)))
    of (Kind.Claim q) f P h = tells_iff (λ g r e. let d : q ≡ r = cc in subst P d g, λ g. g q refl) (h q)
    of (Kind.Release q) f P h = holds (λ r e. absurd (differ (cc)))
    of (Kind.Event q) f P h = holds (λ r e. absurd (differ (cc)))

pub releases : Sort is_release of_release (λ r k. k ≡ Kind.Release r)
releases = record { tells_is = is; tells_of = of }
  where
    is : (p : ℕ) (k : Kind) → Tells (is_release p k) (k ≡ Kind.Release p)
    is p (Kind.Action x q) = fails (λ e. differ (cc))
    is p (Kind.Claim r) = fails (λ e. differ (cc))
    is p (Kind.Release r) = tells_iff (ap Kind.Release, λ e. cc) (tells_eqb r p)
    is p (Kind.Event r) = fails (λ e. differ (cc))

    of : (k : Kind) (f : ℕ → Bool) (P : ℕ → Type 0) → ((r : ℕ) → Tells (f r) (P r)) → Tells (of_release k f) ((r : ℕ) → k ≡ Kind.Release r → P r)
    of (Kind.Action x p) f P h = holds (λ r e. absurd (differ (cc)))
    of (Kind.Claim q) f P h = holds (λ r e. absurd (differ (cc)))
    of (Kind.Release q) f P h = tells_iff (λ g r e. let d : q ≡ r = cc in subst P d g, λ g. g q refl) (h q)
    of (Kind.Event q) f P h = holds (λ r e. absurd (differ (cc)))

pub events : Sort is_event of_event (λ r k. k ≡ Kind.Event r)
events = record { tells_is = is; tells_of = of }
  where
    is : (p : ℕ) (k : Kind) → Tells (is_event p k) (k ≡ Kind.Event p)
    is p (Kind.Action x q) = fails (λ e. differ (cc))
    is p (Kind.Claim r) = fails (λ e. differ (cc))
    is p (Kind.Release r) = fails (λ e. differ (cc))
    is p (Kind.Event r) = tells_iff (ap Kind.Event, λ e. cc) (tells_eqb r p)

    of : (k : Kind) (f : ℕ → Bool) (P : ℕ → Type 0) → ((r : ℕ) → Tells (f r) (P r)) → Tells (of_event k f) ((r : ℕ) → k ≡ Kind.Event r → P r)
    of (Kind.Action x p) f P h = holds (λ r e. absurd (differ (cc)))
    of (Kind.Claim q) f P h = holds (λ r e. absurd (differ (cc)))
    of (Kind.Release q) f P h = holds (λ r e. absurd (differ (cc)))
    of (Kind.Event q) f P h = tells_iff (λ g r e. let d : q ≡ r = cc in subst P d g, λ g. g q refl) (h q)
