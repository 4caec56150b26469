-- `words::has` meets its contract: the machine's shift and remainder read bit m. Assumes nothing.
use Prim.Native.Nat.{◌/◌, ◌^◌, ◌%◌}
use Rattle.basis.proofs.Laws.Tells.{tells_eqb}
use Rattle.activity.proofs.words.has.Goals as goal

pub returns : goal.returns
returns c = tells_eqb (c.args.w / 2 ^ c.args.m % 2) 1
