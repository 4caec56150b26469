-- What each direction takes: every call and every reply is one that it has.
use Rattle.std.specs.Prelude.{◌≡◌, refl, Bool, true, false, cond, ◌&&◌, ℕ, eqb}
use Rattle.std.proofs.Common.{eqb-true}
use Rattle.wire.specs.Map.{bit}
use Rattle.run.specs.declared.Call.{Call}
use Rattle.run.specs.declared.Reply.{Reply}
use Rattle.run_checks.specs.declared.Refusal.{Refusal}
use Rattle.run_checks.specs.declared.Stop.{Stop}
use Rattle.link_messages.specs.Writing.{permits}
use Rattle.link_calls.specs.Calls.{by_call_map, to_board, of_call}
use Rattle.link_calls.specs.Replies.{to_host, of_reply}

-- no call has a number, and none is asked of it
pub board_permits : (m x : ℕ) → permits to_board m x ≡ by_call_map m true true true false
board_permits m x = go (eqb m 0x01) refl (eqb m 0x07) refl (eqb m 0x0F) refl
  where
    go : (t : Bool) → eqb m 0x01 ≡ t → (u : Bool) → eqb m 0x07 ≡ u → (v : Bool) → eqb m 0x0F ≡ v
        → (cond t true (cond u true (cond v true false)) && cond (bit 5 m) false true) ≡ cond t true (cond u true (cond v true false))
    go true e u f v g = rw (eqb-true m 0x01 e)
    go false e true f v g = rw (eqb-true m 0x07 f)
    go false e false f true g = rw (eqb-true m 0x0F g)
    go false e false f false g = refl

-- the message of a call, or of a reply, is one that its direction has
pub call_permitted : (c : Call) → permits to_board (of_call c).map (of_call c).number ≡ true
call_permitted (Call.Ask t) = refl
call_permitted (Call.Completion t p n) = refl
call_permitted (Call.Outcome t p n o) = refl

pub reply_permitted : (r : Reply) → permits to_host (of_reply r).map (of_reply r).number ≡ true
reply_permitted (Reply.Start p a n) = refl
reply_permitted Reply.Wait = refl
reply_permitted Reply.Done = refl
reply_permitted Reply.Taken = refl
reply_permitted (Reply.Refused Refusal.OutOfLimits) = refl
reply_permitted (Reply.Refused Refusal.ReadingBelow) = refl
reply_permitted (Reply.Refused Refusal.NoSuchNode) = refl
reply_permitted (Reply.Refused Refusal.NotStarted) = refl
reply_permitted (Reply.Refused Refusal.OtherKind) = refl
reply_permitted (Reply.Refused Refusal.OutcomeLacking) = refl
reply_permitted (Reply.Refused Refusal.Unlisted) = refl
reply_permitted (Reply.Refused Refusal.Length) = refl
reply_permitted (Reply.Stopped (Stop.Late p n)) = refl
reply_permitted (Reply.Stopped (Stop.Overdue p n)) = refl
reply_permitted (Reply.Stopped Stop.Full) = refl
reply_permitted (Reply.Stopped Stop.Beyond) = refl
