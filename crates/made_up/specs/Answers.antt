-- What two calls of a made-up run answer: a record of 16 bytes each.
use Rattle.std.specs.Prelude.{cond, List, ◌++◌, ℕ, ◌*◌, length, drop, leb}
use Rattle.run.specs.declared.Answer.{Answer}
use Rattle.run.specs.declared.Call.{Call}
use Rattle.run.specs.Calls.{call_of}
use Rattle.drive_records.specs.Records.{record_bytes, reply_record}
use Rattle.made_up.specs.Made.{made_of, call_at, first_from, second_from}

abbrev pub record_of : Answer → List ℕ
record_of a = record_bytes (reply_record a.reply)

-- the second call is given the run that the first handed back
abbrev pub records_after : Answer → Call → List ℕ
records_after first call = record_of first ++ record_of (call_of first.run call)

unfoldable pub made_records : List ℕ → List ℕ
made_records b = records_after (call_of (made_of b) (call_at b first_from)) (call_at b second_from)

-- how many bytes were written, or "36 a buffer too short" times 2^32
unfoldable pub made_code : List ℕ → ℕ
made_code out = cond (leb 32 (length out)) 32 (36 * 4_294_967_296)

-- the buffer after it: "bytes after those written are unchanged", and a buffer too short is unchanged
unfoldable pub made_buffer : List ℕ → List ℕ → List ℕ
made_buffer b out = cond (leb 32 (length out)) (made_records b ++ drop 32 out) out
