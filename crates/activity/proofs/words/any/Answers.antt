-- `words::any` meets its contract: a word is not 0 iff it has a bit. Assumes nothing.
use Rattle.activity.proofs.Sets.{tells_any_bit}
use Rattle.activity.proofs.words.any.Goals as goal

pub returns : goal.returns
returns c = tells_any_bit c.args.w
