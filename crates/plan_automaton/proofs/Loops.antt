-- One turn of the loop over the transitions, at i of `count`.
use mathlib.Core.Path.{◌≡◌}
use mathlib.Core.List.{List}
use Prim.Native.Nat.{ℕ, suc, ◌+◌, ◌-◌, ◌≤◌, ◌<◌}
use native.Mathlib.Omega.{arith}
use lib.ListN.{set}
use Rattle.std.specs.Prelude.{Ok, Err}
use Rattle.plan.specs.Fields.{found}
use Rattle.plan.specs.Moves.{move_at, moves_loop}
use Rattle.plan.specs.declared.FaultAt.{FaultAt}
use Rattle.plan.specs.declared.Automaton.{Automaton}
use Rattle.plan.specs.declared.Transition.{Transition}

module _ (events : ℕ) (outcomes : List ℕ) (activities : ℕ) (b : List ℕ) (states initial finals count i off : ℕ) (moves : List Transition) where
  pub moves_done : count ≤ i
      → found {A = Automaton} (record { states = states; initial = initial; finals = finals; count = count; moves = moves }) off
      ≡ moves_loop events outcomes activities b states initial finals count (count - i) off i moves
  unfolding moves_loop
  moves_done h = let e : count - i ≡ 0 = omega arith in rw e

  pub moves_refused : i < count → (e : FaultAt) → move_at states events outcomes activities b off ≡ Err e
      → Err e ≡ moves_loop events outcomes activities b states initial finals count (count - i) off i moves
  unfolding moves_loop
  moves_refused h e is = let z : count - i ≡ suc (count - (i + 1)) = omega arith in rw (z, is)

  pub moves_next : i < count → (t : Transition) (next : ℕ) → move_at states events outcomes activities b off ≡ Ok (t, next)
      → moves_loop events outcomes activities b states initial finals count (count - i) off i moves
      ≡ moves_loop events outcomes activities b states initial finals count (count - (i + 1)) next (i + 1) (set moves i t)
  unfolding moves_loop
  moves_next h t next e = let z : count - i ≡ suc (count - (i + 1)) = omega arith in rw (z, e)
