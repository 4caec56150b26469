use mathlib.Core.Path.{◌≡◌, refl, ◌∙◌}
use Prim.Native.Nat.{◌+◌}
use native.Mathlib.Omega.{arith}
use Rattle.wire.proofs.Turns.{bytes_next, bytes_done}
use Rattle.wire.proofs.puts.put_bytes.Goals as goal

pub loop-i-init : goal.loop-i-init
loop-i-init c = let z : c.args.at + 0 ≡ c.args.at = omega arith in (refl, rw z)

pub loop-i-preserved : goal.loop-i-preserved
loop-i-preserved c =
    let a = c.args in
    let l = c.loop-i in
    (c.put.auto.out ∙ l.invariant.0, l.invariant.1 ∙ bytes_next a.xs.now l.i l.out _ a.at c.loop-i-test.true c.put.ensures)

pub returns : goal.returns
returns c =
    let a = c.args in
    let l = c.loop-i in
    bytes_done a.xs.now l.i a.out.now l.out a.at (omega arith) l.invariant.1
