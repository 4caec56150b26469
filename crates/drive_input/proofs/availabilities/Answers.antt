use mathlib.Core.List.{[]}
use native.Mathlib.Omega.{arith}
use lib.ListN.{length-set}
use Rattle.drive_input.proofs.Filled.{fills_none, fills_more, fills_all}
use borrow.Author.Rules.{rules}
use Rattle.drive_input.proofs.availabilities.Goals as goal

pub loop-i-init : goal.loop-i-init
loop-i-init c = (search rules, fills_none c.args.input.now c.args.at c.from-i-end.result [])

pub loop-i-preserved : goal.loop-i-preserved
loop-i-preserved c =
    let l = c.loop-i in
    (simp length-set l.invariant.0, fills_more c.args.input.now c.args.at _ l.times l.i l.invariant.1 _ c.eight.ensures c.loop-i-test.true (omega arith))

pub returns : goal.returns
returns c =
    let l = c.loop-i in
    rw (← c.from-i-end.ensures) (fills_all c.args.input.now c.args.at _ l.times l.i l.invariant.1 (omega arith))
