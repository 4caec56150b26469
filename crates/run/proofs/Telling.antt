-- An outcome that the event has, once it is stored with its instance, leaves where the behaviour stands within the limits.
use mathlib.Core.Path.{◌≡◌, refl, sym, subst}
use mathlib.Core.List.{List, [], ◌∷◌}
use Prim.Native.Nat.{ℕ, zero, suc, ◌+◌, ◌*◌, ◌≤◌, ◌<◌}
use native.Mathlib.Omega.{arith}
use lib.ListN.{get_or, set}
use Rattle.basis.proofs.Laws.Bools.{by_test}
use Rattle.plan.specs.Plan.{outcomes_of}
use Rattle.plan.specs.declared.Plan.{Plan}
use Rattle.times.specs.declared.Instance.{Instance}
use Rattle.times.specs.declared.Progress.{Progress}
use Rattle.times.specs.Queues.{no_instance, pending_of}
use Rattle.times.specs.Limits.{InstanceInLimits}
use Rattle.run_window.specs.declared.Entry.{Entry}
use Rattle.run_outcomes.specs.Told.{tell, is_instance, told_from, told_of}
use Rattle.run_loading.specs.Inner.Loading.{Loads}

-- what holds of every place, and of one place once it is told, holds of every place once that one is told
set_each : (Q : ℕ → Instance → Type 0) (xs : List Instance) (i : ℕ) (v : Instance) → ((j : ℕ) → Q j (get_or xs j no_instance)) → Q i v → (j : ℕ) → Q j (get_or (set xs i v) j no_instance)
set_each Q [] i v f h j = f j
set_each Q (x ∷ xs) zero v f h zero = h
set_each Q (x ∷ xs) zero v f h (suc j) = f (suc j)
set_each Q (x ∷ xs) (suc i) v f h zero = f zero
set_each Q (x ∷ xs) (suc i) v f h (suc j) = set_each (λ k. Q (suc k)) xs i v (λ k. f (suc k)) h j

module _ (position node o : ℕ) (Q : ℕ → Instance → Type 0) (xs : List Instance) (f : (j : ℕ) → Q j (get_or xs j no_instance)) where
  told_each : (k i : ℕ) → ((j : ℕ) → i ≤ j → j < i + k → Q j (tell (get_or xs j no_instance) o)) → (j : ℕ) → Q j (get_or (told_from position node o i k xs) j no_instance)
  unfolding told_from
  told_each zero i h = f
  told_each (suc k) i h =
      by_test (λ (l : List Instance). (j : ℕ) → Q j (get_or l j no_instance)) (is_instance position node (get_or xs i no_instance)) _ _
      (λ b. set_each Q xs i (tell (get_or xs i no_instance) o) f (h i (omega arith) (omega arith)))
      (λ b. told_each k (i + 1) (λ j l m. h j (omega arith) (omega arith)))

module _ (plan : Plan) (progress : Progress) (fits : Loads plan progress) (e : ℕ) (named : e < plan.events) (o : ℕ) (has : o < outcomes_of (plan) e) where
  -- place j, where it is place i of the queue of an event
  abbrev Fits : ℕ → Instance → Type 0
  Fits j y = (d i : ℕ) → j ≡ 8 * d + i → d < plan.events → i < pending_of (progress) d → InstanceInLimits (outcomes_of (plan) d) y

  fits_before : (j : ℕ) → Fits j (get_or progress.pending j no_instance)
  fits_before j d i q l m =
      subst (λ (n : ℕ). InstanceInLimits (outcomes_of (plan) d) (get_or progress.pending n no_instance)) (sym q) (fits.progress.pending d i l m)

  fits_told : (j : ℕ) → 8 * e ≤ j → j < 8 * e + pending_of progress e → Fits j (tell (get_or progress.pending j no_instance) o)
  fits_told j low high d i q l m =
      let u = fits.progress.lengths e named in
      let v = fits.progress.lengths d l in
      let s : e ≡ d = omega arith in
      let x = fits_before j d i q l m in
      record { position = x.position; node = x.node; end = x.end; told = subst (λ (n : ℕ). o < outcomes_of (plan) n) s has }

  pub told_loads : (x : Entry) (g : Progress) → g ≡ told_of progress e x o → Loads (plan) g
  told_loads x g q =
      subst (Loads (plan)) (sym q) (record {
        plan = fits.plan;
        progress = record {
          available = fits.progress.available;
          latest = fits.progress.latest;
          lengths = fits.progress.lengths;
          pending = λ d k l m. told_each x.position x.node o Fits progress.pending fits_before (pending_of progress e) (8 * e) fits_told (8 * d + k) d k refl l m;
          position = fits.progress.position;
          state = fits.progress.state;
        };
      })
