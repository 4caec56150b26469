-- A number of eight bytes is made of two numbers of four.
use native.Mathlib.Omega.{arith}
use Rattle.wire.proofs.Laws.Fields.{little_eight}
use Rattle.made.proofs.numbers.eight.Goals as goal

pub returns : goal.returns
returns c = let a = c.args in omega (arith, little_eight a.bytes.now a.at)
