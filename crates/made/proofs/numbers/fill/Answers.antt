use mathlib.Core.Path.{◌≡◌, sym, ◌∙◌, ap}
use mathlib.Core.List.{[]}
use Prim.Native.Nat.{◌+◌, ◌*◌}
use native.Mathlib.Omega.{arith}
use lib.ListN.{length, length-set}
use Rattle.made.specs.Values.{byte_at}
use Rattle.made.proofs.Filled.{fills_none, fills_more, fills_all}
use borrow.Author.Rules.{rules}
use Rattle.made.proofs.numbers.fill.Goals as goal

pub loop-i-init : goal.loop-i-init
loop-i-init c = let a = c.args in (search rules, fills_none byte_at 1 a.bytes.now a.at (length a.part.now) [])

pub loop-i-preserved : goal.loop-i-preserved
loop-i-preserved c =
    let l = c.loop-i in
    let a = c.args in
    let y : a.at + 1 * l.i ≡ a.at + l.i = omega arith in
    (simp length-set l.invariant.0, fills_more byte_at 1 a.bytes.now a.at (length a.part.now) l.part l.i l.invariant.1 _ (c.byte.ensures ∙ ap (byte_at a.bytes.now) (sym y)) c.loop-i-test.true (omega arith))

pub returns : goal.returns
returns c = let l = c.loop-i in let a = c.args in fills_all byte_at 1 a.bytes.now a.at (length a.part.now) l.part l.i l.invariant.1 l.invariant.0 (omega arith) (omega arith)
