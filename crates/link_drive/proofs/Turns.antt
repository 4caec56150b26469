-- One turn of the loops over the messages.
use Rattle.std.specs.Prelude.{Some, None}
use mathlib.Core.Path.{◌≡◌, refl, ◌∙◌, ap}
use mathlib.Core.Bool.{Bool, true, false, cond}
use mathlib.Core.List.{List, [], ◌∷◌, ◌++◌}
use Prim.Native.Nat.{ℕ, zero, suc, ◌+◌, ◌-◌, ◌≤◌}
use native.Mathlib.Decide.{dec_le}
use native.Mathlib.Omega.{arith}
use lib.ListN.{length, take, drop, length-append}
use lib.Dec.{leb}
use borrow.Author.Tests.{le-leb, lt-leb}
use Rattle.run.specs.declared.Run.{Run}
use Rattle.run.specs.declared.Answer.{Answer}
use Rattle.wire.specs.Puts.{Puts}
use Rattle.drive_input.specs.Input.{byte_at}
use Rattle.link.specs.Receive.{receive_of}
use Rattle.link_drive.specs.LinkDrive.{message_at, past_message, messages_from, answered}
use Rattle.link_drive.specs.Inner.Answers.{next_of, answers_from}

-- the message that begins at `at` ends at `next`, within the input
pub record Found (b : List ℕ) (at next : ℕ) : Type 0 where
  pub is : next ≡ past_message b at
  pub ahead : at + 1 ≤ next
  pub fits : next ≤ length b

module _ (b : List ℕ) (at : ℕ) where
  pub next_ends : length b ≤ at + byte_at b at → None ≡ next_of b at
  unfolding next_of
  next_ends h = rw (lt-leb (past_message b at) (length b) (omega arith))

  pub next_at : past_message b at ≤ length b → (next : ℕ) → next ≡ past_message b at → Some next ≡ next_of b at
  unfolding next_of
  next_at h next e = rw (le-leb (past_message b at) (length b) h, e)

  pub found : (next : ℕ) → next_of b at ≡ Some next → Found b at next
  unfolding next_of
  found next e =
      elim (dec_le (past_message b at) (length b)) [
        | yes f ↦
            let w : Some (past_message b at) ≡ Some next = rw (le-leb (past_message b at) (length b) f) at e in
            let z : next ≡ past_message b at = cc in
            record { is = z; ahead = omega arith; fits = omega arith }
        | no f ↦
            let w : None ≡ Some next = rw (lt-leb (past_message b at) (length b) (omega arith)) at e in
            let z : ◌≡◌ {A = ℕ} 0 1 = cc in
            absurd (omega arith)
      ]

  ends : next_of b at ≡ None → leb (past_message b at) (length b) ≡ false
  unfolding next_of
  ends e =
      elim (dec_le (past_message b at) (length b)) [
        | yes f ↦
            let w : Some (past_message b at) ≡ None = rw (le-leb (past_message b at) (length b) f) at e in
            let z : ◌≡◌ {A = ℕ} 0 1 = cc in
            absurd (omega arith)
        | no f ↦ lt-leb (past_message b at) (length b) (omega arith)
      ]

  pub none_left : next_of b at ≡ None → (left : ℕ) → messages_from left b at ≡ []
  unfolding messages_from
  none_left e zero = refl
  none_left e (suc left) = rw (ends e)

  module _ (next : ℕ) (e : next_of b at ≡ Some next) (left k : ℕ) (more : left ≡ suc k) where
    pub one_more : messages_from left b at ≡ message_at b at ∷ messages_from k b next
    unfolding messages_from
    one_more = let f = found next e in rw (more, f.is, le-leb (past_message b at) (length b) (omega (arith, f.is, f.fits)))

    pub answers_one : (run : Run) (a : Answer) → a ≡ receive_of run (take (next - (at + 1)) (drop (at + 1) b))
        → answers_from left run b at ≡ answered a.reply ++ answers_from k a.run b next
    answers_one run a is =
        let n : next - (at + 1) ≡ byte_at b at = omega (arith, (found next e).is) in
        let i : a ≡ receive_of run (message_at b at) = is ∙ ap (λ (m : ℕ). receive_of run (take m (drop (at + 1) b))) n in
        rw (one_more, ← i)

    pub answers_length : (run : Run) (a : Answer) → a ≡ receive_of run (take (next - (at + 1)) (drop (at + 1) b))
        → length (answers_from left run b at) ≡ length (answered a.reply) + length (answers_from k a.run b next)
    answers_length run a is = rw (answers_one run a is) (length-append (answered a.reply) (answers_from k a.run b next))

pub over : (b : List ℕ) (at left : ℕ) → left ≡ 0 → messages_from left b at ≡ []
unfolding messages_from
over b at left e = rw e

-- as many as there are, are all of them
pub counted : (left : ℕ) (b : List ℕ) (at : ℕ) → messages_from (length (messages_from left b at)) b at ≡ messages_from left b at
unfolding messages_from
counted zero b at = refl
counted (suc left) b at = go (leb (past_message b at) (length b)) refl (counted left b (past_message b at))
  where
    go : (t : Bool) → leb (past_message b at) (length b) ≡ t
        → messages_from (length (messages_from left b (past_message b at))) b (past_message b at) ≡ messages_from left b (past_message b at)
        → messages_from (length (cond t (message_at b at ∷ messages_from left b (past_message b at)) [])) b at
        ≡ cond t (message_at b at ∷ messages_from left b (past_message b at)) []
    go true e f = rw e (ap (λ (ms : List (List ℕ)). message_at b at ∷ ms) f)
    go false e f = refl

-- ---- what is put

-- what puts the rest of the answers puts all of them
abbrev pub Leads : List ℕ → ℕ → List ℕ → List ℕ → ℕ → List ℕ → Type 0
Leads out₀ written all out end rest = (after : List ℕ) (next : ℕ) → Puts out end rest after next → Puts out₀ written all after next
