-- The field of an output.
use native.Mathlib.Omega.{arith}
use Rattle.wire.proofs.Laws.Puts.{puts_none, puts_byte}
use Rattle.plan_write.specs.Inner.Bytes.{output_bytes}
use Rattle.plan_write.proofs.bytes.put_output.Goals as goal

pub returns-in-Empty : goal.returns-in-Empty
unfolding output_bytes
returns-in-Empty c = rw c.in-Empty.is (puts_none _ _)

pub returns-in-Activity : goal.returns-in-Activity
unfolding output_bytes
returns-in-Activity c = rw c.in-Activity.is (puts_byte (omega arith) c.put_byte.ensures)
