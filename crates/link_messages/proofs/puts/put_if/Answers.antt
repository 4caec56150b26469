-- The bytes of a field whose bit stands; nothing else is put.
use native.Mathlib.Omega.{arith}
use Rattle.wire.proofs.Laws.Fields.{length_bytes}
use Rattle.wire.proofs.Laws.Puts.{puts_none}
use Rattle.link_messages.proofs.puts.put_if.Goals as goal

pub returns-then-stands : goal.returns-then-stands
returns-then-stands c = let p = c.put_number.ensures in rw c.if-stands.true (omega (arith, p.past, length_bytes c.args.w c.args.x), p)

pub returns : goal.returns
returns c = rw c.if-stands.false (omega arith, puts_none _ _)
