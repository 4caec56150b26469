-- `moves::finals_in_limits` is what it is defined to be. Assumes nothing.
use mathlib.Core.Path.{◌≡◌, sym}
use Prim.Native.Nat.{◌^◌}
use native.Mathlib.Omega.{arith}
use borrow.Author.Tests.{lt-ltb}
use lib.Pow.{pow_pos}
use Rattle.plan_limits.proofs.Laws.Shift.{quotient_zero}
use Rattle.plan_limits.proofs.moves.finals_in_limits.Goals as goal

pub returns-then-states-eq64 : goal.returns-then-states-eq64
returns-then-states-eq64 c =
    let e : c.args.states ≡ 64 = c.if-states-eq64.true in
    rw e (sym (lt-ltb c.args.finals (2 ^ 64) (omega arith)))

pub returns : goal.returns
returns c = quotient_zero c.args.finals (2 ^ c.args.states) (pow_pos c.args.states)
