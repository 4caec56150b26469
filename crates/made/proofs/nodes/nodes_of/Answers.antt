use mathlib.Core.List.{[]}
use native.Mathlib.Omega.{arith}
use lib.ListN.{length-set}
use Rattle.made.specs.Layout.{node_size, nodes_from}
use Rattle.made.specs.Values.{node_at}
use Rattle.made.proofs.Filled.{fills_none, fills_more, fills_all}
use borrow.Author.Rules.{rules}
use Rattle.made.proofs.nodes.nodes_of.Goals as goal

pub loop-i-init : goal.loop-i-init
loop-i-init c = let a = c.args in (search rules, fills_none node_at node_size a.bytes.now nodes_from 2048 [])

pub loop-i-preserved : goal.loop-i-preserved
loop-i-preserved c = let l = c.loop-i in let a = c.args in (simp length-set l.invariant.0, fills_more node_at node_size a.bytes.now nodes_from 2048 l.x-items l.i l.invariant.1 _ c.node_at.ensures c.loop-i-test.true (omega arith))

pub returns : goal.returns
returns c = let l = c.loop-i in let a = c.args in fills_all node_at node_size a.bytes.now nodes_from 2048 l.x-items l.i l.invariant.1 l.invariant.0 (omega arith) (omega arith)
