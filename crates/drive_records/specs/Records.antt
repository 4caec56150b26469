-- A record of 16 bytes for the opening, for each call and for each node's place.
use Rattle.std.specs.Prelude.{List, ◌∷◌, ◌++◌, ℕ}
use Rattle.wire.specs.Number.{bytes_of}
use Rattle.run_checks.specs.declared.Stop.{Stop}
use Rattle.run.specs.declared.Reply.{Reply}
use Rattle.run.specs.declared.Opening.{Opening}
use Rattle.run.specs.Numbers.{refusal_number, stop_number, open_number, open_place}
use Rattle.drive_records.specs.declared.Record.{Record}

-- byte 0 the answer, byte 1 the number or the activity, byte 2 the node, byte 3 zero, bytes 4 to 7 the position, bytes 8
-- to 15 the place
unfoldable pub record_bytes : Record → List ℕ
record_bytes r = r.answer ∷ r.number ∷ r.node ∷ 0 ∷ (bytes_of 4 r.position ++ bytes_of 8 r.place)

-- an answer that names no node; "unused bytes zero"
abbrev pub bare : ℕ → ℕ → ℕ → Record
bare answer number place = record { answer = answer; number = number; node = 0; position = 0; place = place }

-- the node that a stop names; 43 and 44 name none
abbrev pub stop_position : Stop → ℕ
stop_position (Stop.Late p n) = p
stop_position (Stop.Overdue p n) = p
stop_position Stop.Full = 0
stop_position Stop.Beyond = 0

abbrev pub stop_node : Stop → ℕ
stop_node (Stop.Late p n) = n
stop_node (Stop.Overdue p n) = n
stop_node Stop.Full = 0
stop_node Stop.Beyond = 0

unfoldable pub stop_record : Stop → Record
stop_record s = record { answer = 6; number = stop_number s; node = stop_node s; position = stop_position s; place = 0 }

-- 0 opened, 5 refused with the number and the place
unfoldable pub opening_record : Opening → Record
opening_record Opening.Opened = bare 0 0 0
opening_record (Opening.Refused u) = bare 5 (open_number u) (open_place u)

-- 1 start, 2 wait, 3 done, 4 taken, 5 refused, 6 stopped; a refused call has no place
unfoldable pub reply_record : Reply → Record
reply_record (Reply.Start p a n) = record { answer = 1; number = a; node = n; position = p; place = 0 }
reply_record Reply.Wait = bare 2 0 0
reply_record Reply.Done = bare 3 0 0
reply_record Reply.Taken = bare 4 0 0
reply_record (Reply.Refused f) = bare 5 (refusal_number f) 0
reply_record (Reply.Stopped s) = stop_record s

-- 7 a node's place in the window, or the number of places where none holds it
unfoldable pub place_record : ℕ → Record
place_record place = bare 7 0 place
