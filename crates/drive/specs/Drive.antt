-- A list of calls and questions driven through a run: the records that answer the opening and each part, up to where the
-- input ends or ends inside a part, and what is left in a lent buffer.
use Rattle.std.specs.Prelude.{cond, List, [], ◌∷◌, ◌++◌, ℕ, zero, suc, ◌+◌, length, leb, Result, Ok, Err, Option, Some, None}
use Rattle.wire.specs.Puts.{left_by}
use Rattle.run.specs.declared.Run.{Run}
use Rattle.run.specs.declared.Call.{Call}
use Rattle.run.specs.declared.Opened.{Opened}
use Rattle.run.specs.Opening.{open_of}
use Rattle.run.specs.Calls.{call_of}
use Rattle.run_window.specs.Where.{place_of as place_in_window}
use Rattle.drive_input.specs.declared.Part.{Part}
use Rattle.drive_records.specs.declared.Record.{Record}
use Rattle.drive.specs.declared.NotRecorded.{NotRecorded}
use Rattle.drive_input.specs.declared.Head.{Head}
use Rattle.drive_input.specs.Input.{plan_of, availabilities_from, head, is_whole, parts_at, part_at}
use Rattle.drive_records.specs.Records.{record_bytes, opening_record, reply_record, place_record}

-- the answer to the opening that has these numbers
abbrev pub opened_by : List ℕ → Head → Opened
opened_by b h = open_of (plan_of b h.length) h.psi h.slack (availabilities_from b (h.length + 19) h.count)

abbrev pub opened : List ℕ → Opened
opened b = opened_by b (head b)

abbrev pub on_part : {A : Type 0} → Option (Part × ℕ) → (Part → ℕ → A) → A → A
on_part None f z = z
on_part (Some (part, next)) f z = f part next

-- the parts from `at` on, at most `left` of them, up to where the input ends or what is next is no part
unfoldable pub parts_from : ℕ → List ℕ → ℕ → List Part
parts_from zero b at = []
parts_from (suc left) b at = on_part (part_at b at) (λ part next. part ∷ parts_from left b next) []

-- all parts after the opening: the input holds fewer of them than bytes
abbrev pub parts_of : List ℕ → List Part
parts_of b = parts_from (length b) b (parts_at b)

-- the calls among them, in order
abbrev pub calls_among : List Part → List Call
calls_among [] = []
calls_among (Part.Call call ∷ parts) = call ∷ calls_among parts
calls_among (Part.Place position node ∷ parts) = calls_among parts

-- a call is answered by its reply, a question by the node's place in the window
abbrev pub part_record : Run → Part → Record
part_record run (Part.Call call) = reply_record (call_of run call).reply
part_record run (Part.Place position node) = place_record (place_in_window position node run.window)

-- a question leaves the run as it is
abbrev pub run_after : Run → Part → Run
run_after run (Part.Call call) = (call_of run call).run
run_after run (Part.Place position node) = run

-- the records of a list of parts, each given the run that the part before it left
abbrev pub records_from : Run → List Part → List Record
records_from run [] = []
records_from run (part ∷ parts) = part_record run part ∷ records_from (run_after run part) parts

-- the records of the whole input; after a refused opening the run of zeros is driven on, and an input that ends inside the
-- opening has none
unfoldable pub records_of : List ℕ → List Record
records_of b = cond (is_whole b) (opening_record (opened b).opening ∷ records_from (opened b).run (parts_of b)) []

abbrev pub joined : List Record → List ℕ
joined [] = []
joined (r ∷ rs) = record_bytes r ++ joined rs

abbrev pub text_of : List ℕ → List ℕ
text_of b = joined (records_of b)

-- ---- a lent buffer: "Number 36 and the unchanged bytes after hold for every writer into a lent buffer."

-- the number of the refusal; its place is 0
abbrev pub number_of : NotRecorded → ℕ
number_of NotRecorded.TooShort = 36

abbrev pub place_of : NotRecorded → ℕ
place_of n = 0

-- what is answered of a text: how many bytes were written, or why none were
abbrev pub recorded_by : List ℕ → List ℕ → Result ℕ NotRecorded
recorded_by text out = cond (leb (length text) (length out)) (Ok (length text)) (Err NotRecorded.TooShort)

-- of all records; and the buffer that is left
unfoldable pub recorded_of : List ℕ → List ℕ → Result ℕ NotRecorded
recorded_of b out = recorded_by (text_of b) out

unfoldable pub buffer_of : List ℕ → List ℕ → List ℕ
buffer_of b out = left_by (text_of b) out
