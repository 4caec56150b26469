-- `nodes::Sight::in_line` meets its contract: what the words say of the other nodes like n. Assumes nothing.
use Rattle.basis.proofs.Laws.Tells.{tells_iff}
use Rattle.activity.proofs.Seeing.{seen_in_line}
use Rattle.activity.proofs.nodes.Sight.in_line.Goals as goal

pub returns : goal.returns
returns c belongs a n h = tells_iff (seen_in_line belongs a n c.args.self h) c.within.ensures
