-- The bytes of a message, field by field: what the description writes in any direction (`Laws/Printed.message_print`).
use Rattle.std.specs.Prelude.{cond, List, [], ◌++◌, ℕ, get_or}
use Rattle.wire.specs.Map.{bit}
use Rattle.wire.specs.Number.{bytes_of}
use Rattle.link_messages.specs.declared.Message.{Message}
use Rattle.link_messages.specs.Message.{widths}

-- the bytes of the field of bit i that holds x
abbrev pub field_bytes : ℕ → ℕ → ℕ → List ℕ
field_bytes m i x = cond (bit i m) (bytes_of (get_or widths i 0) x) []

abbrev pub message_bytes : Message → List ℕ
message_bytes s =
    bytes_of 1 s.map
    ++ (field_bytes s.map 0 s.reading
    ++ (field_bytes s.map 1 s.position
    ++ (field_bytes s.map 2 s.node
    ++ (field_bytes s.map 3 s.outcome
    ++ (field_bytes s.map 4 s.activity
    ++ field_bytes s.map 5 s.number)))))
