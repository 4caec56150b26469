-- How long the message of a reply is, and that it is always written.
use Rattle.std.specs.Prelude.{◌≡◌, List, ◌++◌, ℕ, ◌≤◌, length, drop}
use Rattle.std.proofs.Common.{arith, le-leb}
use Rattle.run.specs.declared.Reply.{Reply}
use Rattle.run_checks.specs.declared.Stop.{Stop}
use Rattle.link_messages.specs.Message.{length_of}
use Rattle.link_messages.specs.Writing.{buffer_of}
use Rattle.link_messages.proofs.Laws.Lengths.{message_length}
use Rattle.link_calls.specs.Replies.{to_host, of_reply, encode_reply}
use Rattle.link_calls.proofs.Laws.Listed.{reply_permitted}

pub reply_length : (r : Reply) → length (encode_reply r) ≡ length_of (of_reply r).map
unfolding encode_reply
reply_length r = message_length to_host (of_reply r)

-- an answer has at most a map, a position, a node, and an activity or a number
short_map : (r : Reply) → length_of (of_reply r).map ≤ 7
unfolding length_of
short_map (Reply.Start p a n) = omega arith
short_map Reply.Wait = omega arith
short_map Reply.Done = omega arith
short_map Reply.Taken = omega arith
short_map (Reply.Refused f) = omega arith
short_map (Reply.Stopped (Stop.Late p n)) = omega arith
short_map (Reply.Stopped (Stop.Overdue p n)) = omega arith
short_map (Reply.Stopped Stop.Full) = omega arith
short_map (Reply.Stopped Stop.Beyond) = omega arith

pub reply_short : (r : Reply) → length (encode_reply r) ≤ 7
reply_short r = omega (arith, reply_length r, short_map r)

-- the message of a reply is never 61: wherever there is room, its bytes are written
pub reply_left : (r : Reply) (out : List ℕ) → length (encode_reply r) ≤ length out
    → buffer_of to_host (of_reply r) out ≡ encode_reply r ++ drop (length (encode_reply r)) out
unfolding buffer_of encode_reply
reply_left r out fits = rw (reply_permitted r, le-leb (length (encode_reply r)) (length out) fits)
