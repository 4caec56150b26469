-- A list of messages driven through a run: the record that answers the opening and the answer to each message, up to where the
-- input ends or ends inside a message, and what is left in a lent buffer.
use Rattle.std.specs.Prelude.{cond, List, [], ◌∷◌, ◌++◌, ℕ, zero, suc, ◌+◌, length, take, drop, leb, Result}
use Rattle.wire.specs.Puts.{left_by}
use Rattle.run.specs.declared.Run.{Run}
use Rattle.run.specs.declared.Reply.{Reply}
use Rattle.drive_input.specs.Input.{byte_at, is_whole, parts_at}
use Rattle.drive_records.specs.Records.{record_bytes, opening_record}
use Rattle.drive.specs.declared.NotRecorded.{NotRecorded}
use Rattle.drive.specs.Drive.{opened, recorded_by}
use Rattle.link_calls.specs.Replies.{encode_reply}
use Rattle.link.specs.Receive.{receive_of}

-- ---- the messages: each comes behind a byte that says its length, since the messages themselves do not tell where they end

-- the bytes of the message whose length stands at `at`
abbrev pub message_at : List ℕ → ℕ → List ℕ
message_at b at = take (byte_at b at) (drop (at + 1) b)

-- the offset past them
abbrev pub past_message : List ℕ → ℕ → ℕ
past_message b at = at + 1 + byte_at b at

-- the messages from `at` on, at most `left` of them, up to where the input ends or ends inside one
unfoldable pub messages_from : ℕ → List ℕ → ℕ → List (List ℕ)
messages_from zero b at = []
messages_from (suc left) b at =
    cond (leb (past_message b at) (length b)) (message_at b at ∷ messages_from left b (past_message b at)) []

-- all messages after the opening: the input holds fewer of them than bytes
abbrev pub messages_of : List ℕ → List (List ℕ)
messages_of b = messages_from (length b) b (parts_at b)

-- ---- the answers

-- the replies to a list of messages, each given the run that the message before it left
abbrev pub replies_from : Run → List (List ℕ) → List Reply
replies_from run [] = []
replies_from run (message ∷ messages) = (receive_of run message).reply ∷ replies_from (receive_of run message).run messages

-- a reply as a message, behind a byte that says its length
abbrev pub answered : Reply → List ℕ
answered r = length (encode_reply r) ∷ encode_reply r

abbrev pub answer_bytes : List Reply → List ℕ
answer_bytes [] = []
answer_bytes (r ∷ replies) = answered r ++ answer_bytes replies

-- the opening's record and all answers; after a refused opening the run of zeros is driven on, and an input that ends inside the
-- opening has neither
unfoldable pub link_text : List ℕ → List ℕ
link_text b =
    cond (is_whole b)
    (record_bytes (opening_record (opened b).opening) ++ answer_bytes (replies_from (opened b).run (messages_of b)))
    []

-- ---- a lent buffer: "Number 36 and the unchanged bytes after hold for every writer into a lent buffer."

unfoldable pub linked_of : List ℕ → List ℕ → Result ℕ NotRecorded
linked_of b out = recorded_by (link_text b) out

unfoldable pub link_buffer : List ℕ → List ℕ → List ℕ
link_buffer b out = left_by (link_text b) out
