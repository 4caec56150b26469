-- One turn of the search for the instance that an outcome is reported of.
use mathlib.Core.Path.{◌≡◌}
use mathlib.Core.Bool.{true, false}
use mathlib.Core.List.{List}
use Prim.Native.Nat.{ℕ, suc, ◌+◌, ◌-◌, ◌<◌, ◌≤◌}
use native.Mathlib.Omega.{arith}
use lib.ListN.{get_or, set}
use Rattle.times.specs.declared.Instance.{Instance}
use Rattle.times.specs.Queues.{no_instance}
use Rattle.run_outcomes.specs.Told.{tell, is_instance, told_from}

module _ (position node o end i : ℕ) (xs : List Instance) where
  pub told_here : i < end → is_instance position node (get_or xs i no_instance) ≡ true
      → told_from position node o i (end - i) xs ≡ set xs i (tell (get_or xs i no_instance) o)
  unfolding told_from
  told_here l h = let e : end - i ≡ suc (end - (i + 1)) = omega arith in rw (e, h)

  pub told_past : i < end → is_instance position node (get_or xs i no_instance) ≡ false
      → told_from position node o i (end - i) xs ≡ told_from position node o (i + 1) (end - (i + 1)) xs
  unfolding told_from
  told_past l h = let e : end - i ≡ suc (end - (i + 1)) = omega arith in rw (e, h)

  pub told_none : end ≤ i → told_from position node o i (end - i) xs ≡ xs
  unfolding told_from
  told_none l = let e : end - i ≡ 0 = omega arith in rw e

pub told_starts : (position node o from count : ℕ) (xs : List Instance) → told_from position node o from count xs ≡ told_from position node o from (from + count - from) xs
told_starts position node o from count xs = let e : from + count - from ≡ count = omega arith in rw e
