-- `words::meet` meets its contract: `&` is not 0 iff a bit is common. Assumes nothing.
use Rattle.activity.proofs.Sets.{tells_meet}
use Rattle.activity.proofs.words.meet.Goals as goal

pub returns : goal.returns
returns c = tells_meet c.args.w c.args.v
