-- `nodes::Sight::released` meets its contract: the words of the releases and of the nodes after n have a common bit. Assumes nothing.
use Rattle.basis.proofs.Laws.Tells.{tells_iff}
use Rattle.activity.proofs.Seeing.{seen_released}
use Rattle.activity.proofs.nodes.Sight.released.Goals as goal

pub returns : goal.returns
returns c belongs a n h = tells_iff (seen_released belongs a n c.args.self h) c.meet.ensures
