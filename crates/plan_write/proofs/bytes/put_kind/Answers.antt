-- The fields of a kind, one after the other.
use native.Mathlib.Omega.{arith}
use Rattle.wire.proofs.Laws.Puts.{puts_join, puts_byte}
use Rattle.plan_write.specs.Inner.Bytes.{kind_bytes}
use Rattle.plan_write.proofs.bytes.put_kind.Goals as goal

pub returns-in-Action : goal.returns-in-Action
unfolding kind_bytes
returns-in-Action c = rw c.in-Action.is (puts_join (puts_byte (omega arith) c.put_byte-next.ensures) (puts_byte (omega arith) c.put_byte.ensures))

pub returns-in-Claim : goal.returns-in-Claim
unfolding kind_bytes
returns-in-Claim c = rw c.in-Claim.is (puts_byte (omega arith) c.put_byte-in-Claim.ensures)

pub returns-in-Release : goal.returns-in-Release
unfolding kind_bytes
returns-in-Release c = rw c.in-Release.is (puts_byte (omega arith) c.put_byte-in-Release.ensures)

pub returns-in-Event : goal.returns-in-Event
unfolding kind_bytes
returns-in-Event c = rw c.in-Event.is (puts_byte (omega arith) c.put_byte-in-Event.ensures)
