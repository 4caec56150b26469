-- The writer of a direction is the writer of its message's bytes, where what it is told is whether the direction has the message.
use Rattle.std.specs.Prelude.{◌≡◌, Bool, List, ℕ, Result}
use Rattle.link_messages.specs.declared.Message.{Message}
use Rattle.link_messages.specs.declared.NotSent.{NotSent}
use Rattle.link_messages.specs.Message.{Direction}
use Rattle.link_messages.specs.Writing.{permits, sent_by, buffer_by, sent_of, buffer_of}
use Rattle.link_messages.specs.Inner.Bytes.{message_bytes}
use Rattle.link_messages.proofs.Laws.Printed.{message_print}

module _ (d : Direction) (s : Message) {good : Bool} (told : good ≡ permits d s.map s.number) where
  pub writes_as : (out : List ℕ) {r : Result ℕ NotSent} {after : List ℕ} → (r ≡ sent_by good (message_bytes s) out) × (after ≡ buffer_by good (message_bytes s) out)
      → (r ≡ sent_of d s out) × (after ≡ buffer_of d s out)
  unfolding sent_of buffer_of
  writes_as out h = rw (message_print d s, ← told) h
