-- Where the next message ends, and the answers to some messages from an offset on.
use Rattle.std.specs.Prelude.{cond, List, ℕ, length, leb, Option, Some, None}
use Rattle.run.specs.declared.Run.{Run}
use Rattle.link_drive.specs.LinkDrive.{past_message, messages_from, replies_from, answer_bytes}

-- the offset past the message at `at`, if the input holds it whole
unfoldable pub next_of : List ℕ → ℕ → Option ℕ
next_of b at = cond (leb (past_message b at) (length b)) (Some (past_message b at)) None

-- the bytes of the answers to so many messages from `at` on
abbrev pub answers_from : ℕ → Run → List ℕ → ℕ → List ℕ
answers_from left run b at = answer_bytes (replies_from run (messages_from left b at))
