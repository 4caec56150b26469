-- How many answers there are, and how long they are at most.
use Rattle.std.specs.Prelude.{◌≡◌, Bool, true, false, cond, List, [], ◌∷◌, ℕ, zero, suc, ◌*◌, ◌≤◌, length, leb}
use Rattle.std.proofs.Common.{ap, arith, length-append}
use Rattle.run.specs.declared.Run.{Run}
use Rattle.run.specs.declared.Reply.{Reply}
use Rattle.link_calls.proofs.Laws.Lengths.{reply_short}
use Rattle.link.specs.Receive.{receive_of}
use Rattle.link_drive.specs.LinkDrive.{message_at, past_message, messages_from, replies_from, answer_bytes}
use Rattle.link_drive.specs.Inner.Answers.{answers_from}

-- so many answers have at most 8 bytes each
answers_short : (rs : List Reply) → length (answer_bytes rs) ≤ 8 * length rs
answers_short [] = omega arith
answers_short (r ∷ rs) = rw length-append (omega (arith, reply_short r, answers_short rs))

-- one answer for each message
pub replies_length : (run : Run) (ms : List (List ℕ)) → length (replies_from run ms) ≡ length ms
replies_length run [] = omega arith
replies_length run (m ∷ ms) = ap suc (replies_length (receive_of run m).run ms)

messages_most : (left : ℕ) (b : List ℕ) (at : ℕ) → length (messages_from left b at) ≤ left
unfolding messages_from
messages_most zero b at = omega arith
messages_most (suc left) b at = go (leb (past_message b at) (length b)) (messages_most left b (past_message b at))
  where
    go : (t : Bool) → length (messages_from left b (past_message b at)) ≤ left
        → length (cond t (message_at b at ∷ messages_from left b (past_message b at)) []) ≤ suc left
    go true l = omega arith
    go false l = omega arith

pub answers_most : (left : ℕ) (run : Run) (b : List ℕ) (at : ℕ) → length (answers_from left run b at) ≤ 8 * left
answers_most left run b at =
    let ms = messages_from left b at in
    omega (arith, answers_short (replies_from run ms), replies_length run ms, messages_most left b at)
