-- The fields of an input.
use native.Mathlib.Omega.{arith}
use Rattle.wire.proofs.Laws.Puts.{puts_none, puts_join, puts_byte}
use Rattle.plan_write.specs.Inner.Bytes.{input_bytes}
use Rattle.plan_write.proofs.bytes.put_input.Goals as goal

pub returns-in-Nothing : goal.returns-in-Nothing
unfolding input_bytes
returns-in-Nothing c = rw c.in-Nothing.is (puts_none _ _)

pub returns-in-Outcome : goal.returns-in-Outcome
unfolding input_bytes
returns-in-Outcome c = rw c.in-Outcome.is (puts_join (puts_byte (omega arith) c.put_byte-next.ensures) (puts_byte (omega arith) c.put_byte.ensures))
