use mathlib.Core.List.{[]}
use native.Mathlib.Omega.{arith}
use lib.ListN.{length-set}
use Rattle.made.specs.Layout.{time_size}
use Rattle.made.specs.Values.{time_at}
use Rattle.made.proofs.Filled.{fills_none, fills_more, fills_all}
use borrow.Author.Rules.{rules}
use Rattle.made.proofs.moments.times_at.Goals as goal

pub loop-i-init : goal.loop-i-init
loop-i-init c = let a = c.args in (search rules, fills_none time_at time_size a.bytes.now a.at 16 [])

pub loop-i-preserved : goal.loop-i-preserved
loop-i-preserved c = let l = c.loop-i in let a = c.args in (simp length-set l.invariant.0, fills_more time_at time_size a.bytes.now a.at 16 l.x-items l.i l.invariant.1 _ c.time.ensures c.loop-i-test.true (omega arith))

pub returns : goal.returns
returns c = let l = c.loop-i in let a = c.args in fills_all time_at time_size a.bytes.now a.at 16 l.x-items l.i l.invariant.1 l.invariant.0 (omega arith) (omega arith)
