-- An answer in the buffer: its length, and the reply's bytes behind it.
use mathlib.Core.Path.{◌≡◌, sym, ◌∙◌, ap}
use mathlib.Core.List.{List, [], ◌∷◌, ◌++◌}
use Prim.Native.Nat.{ℕ, ◌+◌, ◌-◌, ◌≤◌}
use native.Mathlib.Nat.{zero-add}
use native.Mathlib.Omega.{arith}
use lib.ListN.{length, set, take, drop, length-set, length-take, length-drop}
use lib.Seq.{sets-eq}
use Rattle.wire.specs.Puts.{Puts}
use Rattle.wire.proofs.Laws.Puts.{puts_join}
use Rattle.run.specs.declared.Reply.{Reply}
use Rattle.drive_records.proofs.Laws.Placed.{placed}
use Rattle.link_messages.specs.declared.Message.{Message}
use Rattle.link_messages.specs.Writing.{buffer_of}
use Rattle.link_calls.specs.Replies.{to_host, of_reply, encode_reply}
use Rattle.link_drive.specs.LinkDrive.{answered}
use Rattle.link_calls.proofs.Laws.Lengths.{reply_left}

module _ (r : Reply) where
  -- the reply, at the front of a part of the buffer
  reply_puts : (out : List ℕ) → length (encode_reply r) ≤ length out → Puts out 0 (encode_reply r) (buffer_of to_host (of_reply r) out) (length (encode_reply r))
  reply_puts out fits =
      record { past = omega arith; left = reply_left r out fits ∙ sym (sets-eq (encode_reply r) out 0 (omega arith) ∙ rw zero-add) }

  module _ (out : List ℕ) (at n k end : ℕ) (size : n ≡ length (encode_reply r)) (e : end ≡ at + 1 + n) (k-is : k ≡ end - (at + 1)) (fits : end ≤ length out) where
    pub answer_puts : (m : Message) → m ≡ of_reply r → (part : List ℕ) → part ≡ buffer_of to_host m (take k (drop (at + 1) (set out at n)))
        → Puts out at (answered r) (take (at + 1) (set out at n) ++ (part ++ drop k (drop (at + 1) (set out at n)))) end
    answer_puts m is part left =
        let l = set out at n in
        let long : length l ≡ length out = length-set out at n in
        let room : length (encode_reply r) ≤ length (take k (drop (at + 1) l)) = rw (length-take, length-drop) (omega arith) in
        let byte : Puts out at (length (encode_reply r) ∷ []) l (at + 1) = record { past = omega arith; left = ap (set out at) size } in
        let put : Puts (take k (drop (at + 1) l)) 0 (encode_reply r) part (length (encode_reply r)) = rw (left, is) (reply_puts _ room) in
        puts_join byte (placed l (at + 1) end k (encode_reply r) k-is (omega arith) (omega arith) (omega arith) part _ put)
