-- What a transition processes, case by case: nothing, the oldest instance of an event, or an event of which none is
-- pending. Assumes nothing.
use Rattle.std.specs.Prelude.{◌≡◌, Bool, cond, ℕ, ◌+◌, ◌*◌, ◌≤◌, ◌<◌, get_or, ltb}
use Rattle.std.proofs.Common.{sym, ◌∙◌, arith, lt-ltb, le-ltb}
use Rattle.std.proofs.Math.Path.{ap}
use Rattle.plan.specs.declared.Input.{Input}
use Rattle.times.specs.declared.Progress.{Progress}
use Rattle.times.specs.Times.{specified}
use Rattle.times.specs.Queues.{no_instance, pending_of, instance_of, oldest_gone, floor_of, processed_of}

pub floor_nothing : (i : Input) (g : Progress) → i ≡ Input.Nothing → specified 0 ≡ specified (floor_of i g)
unfolding floor_of
floor_nothing i g p = sym (ap (λ (z : Input). specified (floor_of z g)) p)

pub processed_nothing : (i : Input) (g : Progress) → i ≡ Input.Nothing → g ≡ processed_of i g
unfolding processed_of
processed_nothing i g p = sym (ap (λ (z : Input). processed_of z g) p)

module _ (i : Input) (g : Progress) (e o k : ℕ) (p : i ≡ Input.Outcome e o) (q : k ≡ e) where
  floor_by : floor_of i g ≡ cond (ltb 0 (pending_of g k)) (instance_of g k 0).end.0 0
  unfolding floor_of
  floor_by = ap (λ (z : Input). floor_of z g) p ∙ ap (λ (z : ℕ). floor_of (Input.Outcome z o) g) (sym q)

  processed_by_lem : processed_of i g ≡ cond (ltb 0 (pending_of g k)) (oldest_gone k g) g
  unfolding processed_of
  processed_by_lem = ap (λ (z : Input). processed_of z g) p ∙ ap (λ (z : ℕ). processed_of (Input.Outcome z o) g) (sym q)

  pub floor_oldest : 0 < pending_of g k → (get_or g.pending (8 * k) no_instance).end ≡ specified (floor_of i g)
  floor_oldest h =
      let z : 8 * k ≡ 8 * k + 0 = omega arith in
      ap (λ (j : ℕ). (get_or g.pending j no_instance).end) z
      ∙ sym (ap specified (floor_by ∙ ap (λ (b : Bool). cond b (instance_of g k 0).end.0 0) (lt-ltb 0 (pending_of g k) h)))

  pub floor_none : pending_of g k ≤ 0 → specified 0 ≡ specified (floor_of i g)
  floor_none h = sym (ap specified (floor_by ∙ ap (λ (b : Bool). cond b (instance_of g k 0).end.0 0) (le-ltb 0 (pending_of g k) h)))

  pub processed_oldest : 0 < pending_of g k → oldest_gone k g ≡ processed_of i g
  processed_oldest h = sym (processed_by_lem ∙ ap (λ (b : Bool). cond b (oldest_gone k g) g) (lt-ltb 0 (pending_of g k) h))

  pub processed_none : pending_of g k ≤ 0 → g ≡ processed_of i g
  processed_none h = sym (processed_by_lem ∙ ap (λ (b : Bool). cond b (oldest_gone k g) g) (le-ltb 0 (pending_of g k) h))
