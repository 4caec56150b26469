-- Messages of the host link, and their answers as numbers, for callers in another language.
use Rattle.std.specs.Prelude.{cond, List, ℕ, ◌*◌, length, get_or, eqb, Result, Ok, Err}
use Rattle.wire.specs.Number.{little}
use Rattle.run.specs.declared.Call.{Call}
use Rattle.run.specs.declared.Reply.{Reply}
use Rattle.run_checks.specs.declared.Refusal.{Refusal}
use Rattle.run.specs.Numbers.{refusal_number}
use Rattle.link_messages.specs.declared.Message.{Message}
use Rattle.link_messages.specs.declared.NotSent.{NotSent}
use Rattle.link_messages.specs.Message.{Direction}
use Rattle.link_messages.specs.Writing.{number_of, sent_of, buffer_of}
use Rattle.link_calls.specs.Calls.{to_board, of_call, read_call}
use Rattle.link_calls.specs.Replies.{to_host, of_reply, read_answer}

-- what a writer of messages answers: how many bytes it wrote, or its number times 2^32
unfoldable pub sent_code : Result ℕ NotSent → ℕ
sent_code (Ok n) = n
sent_code (Err w) = number_of w * 4_294_967_296

-- 62 or 61 in reading, times 2^32
abbrev pub refused_code : Refusal → ℕ
refused_code f = refusal_number f * 4_294_967_296

-- ---- a message read and written back; one that is refused writes nothing

unfoldable pub call_code : Result Call Refusal → List ℕ → ℕ
call_code (Ok c) out = sent_code (sent_of to_board (of_call c) out)
call_code (Err f) out = refused_code f

unfoldable pub call_buffer : Result Call Refusal → List ℕ → List ℕ
call_buffer (Ok c) out = buffer_of to_board (of_call c) out
call_buffer (Err f) out = out

unfoldable pub answer_code : Result Reply Refusal → List ℕ → ℕ
answer_code (Ok r) out = sent_code (sent_of to_host (of_reply r) out)
answer_code (Err f) out = refused_code f

unfoldable pub answer_buffer : Result Reply Refusal → List ℕ → List ℕ
answer_buffer (Ok r) out = buffer_of to_host (of_reply r) out
answer_buffer (Err f) out = out

-- direction 0 is to the board, any other to the host
unfoldable pub message_code : ℕ → List ℕ → List ℕ → ℕ
message_code d b out = cond (eqb d 0) (call_code (read_call b) out) (answer_code (read_answer b) out)

unfoldable pub message_buffer : ℕ → List ℕ → List ℕ → List ℕ
message_buffer d b out = cond (eqb d 0) (call_buffer (read_call b) out) (answer_buffer (read_answer b) out)

-- ---- a message of any fields, written

abbrev pub direction_of : ℕ → Direction
direction_of d = cond (eqb d 0) to_board to_host

-- map (1 byte), reading (8), position (4), node (1), outcome (1), activity (1), number (1)
unfoldable pub fields_of : List ℕ → Message
fields_of b = record {
  map = get_or b 0 0;
  reading = little 8 b 1;
  position = little 4 b 9;
  node = get_or b 13 0;
  outcome = get_or b 14 0;
  activity = get_or b 15 0;
  number = get_or b 16 0;
}

-- any other length than these 17 bytes is 62, and writes nothing
unfoldable pub send_code : ℕ → List ℕ → List ℕ → ℕ
send_code d b out = cond (eqb (length b) 17) (sent_code (sent_of (direction_of d) (fields_of b) out)) (62 * 4_294_967_296)

unfoldable pub send_buffer : ℕ → List ℕ → List ℕ → List ℕ
send_buffer d b out = cond (eqb (length b) 17) (buffer_of (direction_of d) (fields_of b) out) out
