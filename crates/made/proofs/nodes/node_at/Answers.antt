-- A node is made of its fields.
use Rattle.made.specs.Values.{node_at}
use Rattle.made.proofs.nodes.node_at.Goals as goal

pub returns : goal.returns
unfolding node_at
returns c = rw (← c.preds_at-preds.ensures, ← c.byte-count.ensures, ← c.four-duration.ensures.0, ← c.byte-3.ensures, ← c.byte-2.ensures, ← c.byte.ensures, ← c.kind_of-kind.ensures)
