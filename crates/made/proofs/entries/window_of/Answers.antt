use mathlib.Core.List.{[]}
use Rattle.made.specs.Parts.{window_of}
use native.Mathlib.Omega.{arith}
use lib.ListN.{length-set}
use Rattle.made.specs.Layout.{entry_size, window_from}
use Rattle.made.specs.Values.{entry_at}
use Rattle.made.proofs.Filled.{fills_none, fills_more, fills_all}
use borrow.Author.Rules.{rules}
use Rattle.made.proofs.entries.window_of.Goals as goal

pub loop-i-init : goal.loop-i-init
loop-i-init c = let a = c.args in (search rules, fills_none entry_at entry_size a.bytes.now window_from 512 [])

pub loop-i-preserved : goal.loop-i-preserved
loop-i-preserved c = let l = c.loop-i in let a = c.args in (simp length-set l.invariant.0, fills_more entry_at entry_size a.bytes.now window_from 512 l.x-items l.i l.invariant.1 _ c.entry_at.ensures c.loop-i-test.true (omega arith))

pub returns : goal.returns
unfolding window_of
returns c = let l = c.loop-i in let a = c.args in fills_all entry_at entry_size a.bytes.now window_from 512 l.x-items l.i l.invariant.1 l.invariant.0 (omega arith) (omega arith)
