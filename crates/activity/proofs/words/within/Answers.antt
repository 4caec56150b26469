-- `words::within` meets its contract: `|` adds nothing iff every bit is there already. Assumes nothing.
use Rattle.activity.proofs.Sets.{tells_within}
use Rattle.activity.proofs.words.within.Goals as goal

pub returns : goal.returns
returns c = tells_within c.args.w c.args.v
