-- The loop over the nodes. Its invariant: the first i stand in the array.
use mathlib.Core.Path.{◌≡◌}
use lib.ListN.{length}
use Rattle.made.specs.Layout.{node_size, nodes_from}
use Rattle.made.specs.Values.{node_at}
use Rattle.made.proofs.Filled.{Fills}
use Rattle.made.proofs.nodes.nodes_of.Given as goal

abbrev pub invariant-loop-i : goal.invariant-loop-i
invariant-loop-i l = (length l.x-items ≡ 2048) × Fills node_at node_size l.bytes nodes_from 2048 l.x-items l.i
