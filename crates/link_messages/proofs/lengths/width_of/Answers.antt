-- A bit that stands has its field.
use native.Mathlib.Omega.{arith}
use Rattle.link_messages.proofs.lengths.width_of.Goals as goal

pub returns-then-stands : goal.returns-then-stands
returns-then-stands c = (rw (← c.stands.ensures, c.if-stands.true), omega arith)

pub returns : goal.returns
returns c = (rw (← c.stands.ensures, c.if-stands.false), omega arith)
