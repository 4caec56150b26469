-- `nodes::Sight::alone` meets its contract: what the words say of the other nodes like n. Assumes nothing.
use Rattle.basis.proofs.Laws.Tells.{tells_iff}
use Rattle.activity.proofs.Seeing.{seen_alone}
use Rattle.activity.proofs.nodes.Sight.alone.Goals as goal

pub returns : goal.returns
returns c belongs a n h = tells_iff (seen_alone belongs a n c.args.self h) c.within.ensures
