-- One turn of the loop over a node's predecessors, at i of `count`.
use mathlib.Core.Path.{◌≡◌}
use mathlib.Core.List.{List}
use Prim.Native.Nat.{ℕ, suc, ◌+◌, ◌-◌, ◌≤◌, ◌<◌}
use native.Mathlib.Omega.{arith}
use lib.ListN.{set}
use borrow.Author.Tests.{le-ltb, lt-ltb}
use Rattle.std.specs.Prelude.{Ok, Err}
use Rattle.plan.specs.Fields.{found, faulty, name_at}
use Rattle.plan.specs.Nodes.{preds_loop}
use Rattle.plan.specs.declared.Fault.{Fault}
use Rattle.plan.specs.declared.FaultAt.{FaultAt}

module _ (b : List ℕ) (size count i off low : ℕ) (preds : List ℕ) where
  pub preds_done : count ≤ i → found (record { count = count; preds = preds }) off ≡ preds_loop size b count (count - i) off i low preds
  unfolding preds_loop
  preds_done h = let e : count - i ≡ 0 = omega arith in rw e

  module _ (h : i < count) where
    pub preds_refused : (f : FaultAt) → name_at size b off ≡ Err f → Err f ≡ preds_loop size b count (count - i) off i low preds
    unfolding preds_loop
    preds_refused f e = let z : count - i ≡ suc (count - (i + 1)) = omega arith in rw (z, e)

    module _ (x next : ℕ) (e : name_at size b off ≡ Ok (x, next)) where
      pub preds_fall : x < low → faulty Fault.NotRising off ≡ preds_loop size b count (count - i) off i low preds
      unfolding preds_loop
      preds_fall l = let z : count - i ≡ suc (count - (i + 1)) = omega arith in rw (z, e, lt-ltb _ _ l)

      pub preds_next : low ≤ x
          → preds_loop size b count (count - i) off i low preds ≡ preds_loop size b count (count - (i + 1)) next (i + 1) (x + 1) (set preds i x)
      unfolding preds_loop
      preds_next l = let z : count - i ≡ suc (count - (i + 1)) = omega arith in rw (z, e, le-ltb _ _ l)
