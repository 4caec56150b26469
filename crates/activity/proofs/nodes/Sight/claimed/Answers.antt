-- `nodes::Sight::claimed` meets its contract: the words of the claims and of the nodes before n have a common bit. Assumes nothing.
use Rattle.basis.proofs.Laws.Tells.{tells_iff}
use Rattle.activity.proofs.Seeing.{seen_claimed}
use Rattle.activity.proofs.nodes.Sight.claimed.Goals as goal

pub returns : goal.returns
returns c belongs a n h = tells_iff (seen_claimed belongs a n c.args.self h) c.meet.ensures
