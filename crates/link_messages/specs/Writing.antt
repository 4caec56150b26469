-- Writing a message into a lent buffer: "61 .. (for a writer too, place 0, before 36)".
use Rattle.std.specs.Prelude.{Bool, true, cond, ◌&&◌, List, ℕ, ◌^◌, ◌<◌, length, leb, Result, Ok, Err}
use Rattle.wire.specs.Map.{bit}
use Rattle.wire.specs.Puts.{left_by}
use Rattle.format.specs.Format.{print}
use Rattle.link_messages.specs.declared.Message.{Message}
use Rattle.link_messages.specs.declared.NotSent.{NotSent}
use Rattle.link_messages.specs.Message.{Direction, message}

-- what the types of a message's fields hold
pub record Fits (s : Message) : Type 0 where
  pub map : s.map < 256
  pub reading : s.reading < 256 ^ 8
  pub position : s.position < 256 ^ 4
  pub node : s.node < 256
  pub outcome : s.outcome < 256
  pub activity : s.activity < 256
  pub number : s.number < 256

-- "61, a map not listed for its direction, or a number no such answer has"
abbrev pub permits : Direction → ℕ → ℕ → Bool
permits d m x = d.listed m && cond (bit 5 m) (d.answers m x) true

-- the number of each refusal; its place is 0
abbrev pub number_of : NotSent → ℕ
number_of NotSent.Unlisted = 61
number_of NotSent.TooShort = 36

abbrev pub place_of : NotSent → ℕ
place_of n = 0

-- what a writer of these bytes answers, where `good` says whether its direction has the message: how many bytes it wrote, or why it
-- wrote none
abbrev pub sent_by : Bool → List ℕ → List ℕ → Result ℕ NotSent
sent_by good bytes out =
    cond good
    (cond (leb (length bytes) (length out)) (Ok (length bytes)) (Err NotSent.TooShort))
    (Err NotSent.Unlisted)

-- the buffer that it leaves; a refusal leaves it as it was
abbrev pub buffer_by : Bool → List ℕ → List ℕ → List ℕ
buffer_by good bytes out = cond good (left_by bytes out) out

-- both, of a direction and a message
unfoldable pub sent_of : Direction → Message → List ℕ → Result ℕ NotSent
sent_of d s out = sent_by (permits d s.map s.number) (print (message d) s) out

unfoldable pub buffer_of : Direction → Message → List ℕ → List ℕ
buffer_of d s out = buffer_by (permits d s.map s.number) (print (message d) s) out
