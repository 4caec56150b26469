-- The fields are put one after the other.
use mathlib.Core.Path.{◌∙◌}
use native.Mathlib.Omega.{arith}
use Rattle.wire.proofs.Laws.Puts.{puts_join, puts_byte, puts_length}
use Rattle.link_messages.proofs.puts.put_message.Goals as goal

pub put_if-e-requires : goal.put_if-e-requires
put_if-e-requires c = (omega (arith, c.put_if-d.ensures.0, c.put_if-c.ensures.0, c.put_if-b.ensures.0, c.put_byte-a.ensures.past), omega arith)

pub put_if-f-requires : goal.put_if-f-requires
put_if-f-requires c = (omega (arith, c.put_if-e.ensures.0, c.put_if-d.ensures.0, c.put_if-c.ensures.0, c.put_if-b.ensures.0, c.put_byte-a.ensures.past), omega arith)

pub put_if-requires : goal.put_if-requires
put_if-requires c = (omega (arith, c.put_if-f.ensures.0, c.put_if-e.ensures.0, c.put_if-d.ensures.0, c.put_if-c.ensures.0, c.put_if-b.ensures.0, c.put_byte-a.ensures.past), omega arith)

pub shape_of-out : goal.shape_of-out
shape_of-out c = puts_length c.put_if.ensures.1 ∙ puts_length c.put_if-f.ensures.1 ∙ puts_length c.put_if-e.ensures.1 ∙ puts_length c.put_if-d.ensures.1 ∙ puts_length c.put_if-c.ensures.1 ∙ puts_length c.put_if-b.ensures.1 ∙ puts_length c.put_byte-a.ensures

pub returns : goal.returns
returns c = rw (← c.stands.ensures, ← c.stands-2.ensures, ← c.stands-3.ensures, ← c.stands-4.ensures, ← c.stands-5.ensures, ← c.stands-6.ensures, ← c.from.ensures, ← c.from-2.ensures, ← c.from-3.ensures, ← c.from-4.ensures, ← c.from-5.ensures) (puts_join (puts_byte (omega arith) c.put_byte-a.ensures) (puts_join c.put_if-b.ensures.1 (puts_join c.put_if-c.ensures.1 (puts_join c.put_if-d.ensures.1 (puts_join c.put_if-e.ensures.1 (puts_join c.put_if-f.ensures.1 c.put_if.ensures.1))))))
