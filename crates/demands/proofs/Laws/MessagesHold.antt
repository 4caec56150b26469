-- `call_bytes_lem`, `reply_bytes_lem`: the bytes of each message. `call_message_lem`, `answer_message`: bytes are read as a call or a reply exactly
-- where they are its bytes. `call_written`, `reply_written`: whatever they are read as, they are its bytes.
use Rattle.std.specs.Prelude.{◌≡◌, refl, Bool, true, false, cond, List, ℕ, get_or, Ok, Err}
use Rattle.std.proofs.Common.{sym, ◌∙◌, ap, subst, append-nil}
use Rattle.wire.specs.Number.{bytes_of}
use Rattle.format.specs.Format.{print, result}
use Rattle.run.specs.declared.Call.{Call}
use Rattle.run.specs.declared.Reply.{Reply}
use Rattle.run_checks.specs.declared.Refusal.{Refusal}
use Rattle.run_checks.specs.declared.Stop.{Stop}
use Rattle.link_messages.specs.Message.{has_length, read_by, message}
use Rattle.link_messages.specs.Writing.{permits}
use Rattle.link_messages.specs.Inner.Bytes.{message_bytes}
use Rattle.link_messages.proofs.Laws.Printed.{message_print}
use Rattle.link_messages.proofs.Laws.Reading.{fields_at, read_by_lem}
use Rattle.link_messages.proofs.Laws.RoundTrip.{written_back, read_back}
use Rattle.link_calls.specs.Calls.{to_board, of_call, encode_call, refusal_of, call_from, read_call}
use Rattle.link_calls.specs.Replies.{to_host, of_reply, encode_reply, reply_from, read_answer}
use Rattle.link_calls.proofs.Laws.Listed.{call_permitted, reply_permitted}
use Rattle.link_calls.proofs.Laws.Same.{call_same, call_from_lem, reply_same, reply_from_lem}
use Rattle.demands.specs.Messages.{reply_bytes, StatementCallBytes, StatementReplyBytes, StatementCallMessage, StatementAnswerMessage, StatementCallWritten, StatementReplyWritten}

-- ---- the bytes of each message

pub call_bytes_lem : StatementCallBytes
unfolding encode_call
call_bytes_lem (Call.Ask t) = message_print to_board (of_call (Call.Ask t)) ∙ rw (append-nil (bytes_of 8 t.0))
call_bytes_lem (Call.Completion t p n) = message_print to_board (of_call (Call.Completion t p n))
call_bytes_lem (Call.Outcome t p n o) = message_print to_board (of_call (Call.Outcome t p n o))

reply_print : (r : Reply) → encode_reply r ≡ message_bytes (of_reply r)
unfolding encode_reply
reply_print r = message_print to_host (of_reply r)

refusal_bytes : (f : Refusal) → message_bytes (of_reply (Reply.Refused f)) ≡ reply_bytes (Reply.Refused f)
refusal_bytes Refusal.OutOfLimits = refl
refusal_bytes Refusal.ReadingBelow = refl
refusal_bytes Refusal.NoSuchNode = refl
refusal_bytes Refusal.NotStarted = refl
refusal_bytes Refusal.OtherKind = refl
refusal_bytes Refusal.OutcomeLacking = refl
refusal_bytes Refusal.Unlisted = refl
refusal_bytes Refusal.Length = refl

pub reply_bytes_lem : StatementReplyBytes
reply_bytes_lem (Reply.Start p a n) = reply_print (Reply.Start p a n)
reply_bytes_lem Reply.Wait = reply_print Reply.Wait
reply_bytes_lem Reply.Done = reply_print Reply.Done
reply_bytes_lem Reply.Taken = reply_print Reply.Taken
reply_bytes_lem (Reply.Refused f) = reply_print (Reply.Refused f) ∙ refusal_bytes f
reply_bytes_lem (Reply.Stopped (Stop.Late p n)) = reply_print (Reply.Stopped (Stop.Late p n))
reply_bytes_lem (Reply.Stopped (Stop.Overdue p n)) = reply_print (Reply.Stopped (Stop.Overdue p n))
reply_bytes_lem (Reply.Stopped Stop.Full) = reply_print (Reply.Stopped Stop.Full)
reply_bytes_lem (Reply.Stopped Stop.Beyond) = reply_print (Reply.Stopped Stop.Beyond)

-- ---- reading

-- the result of a call's message is that message: its other fields are 0
call_result : (c : Call) → result (message to_board) (of_call c) ≡ of_call c
unfolding result
call_result (Call.Ask t) = refl
call_result (Call.Completion t p n) = refl
call_result (Call.Outcome t p n o) = refl

pub call_written : StatementCallWritten
unfolding read_call encode_call
call_written b bytes c e =
    by_length (has_length b) refl (permits to_board (get_or b 0 0) (fields_at (get_or b 0 0) b).number) refl (sym (read_by_lem to_board b call_from (λ n. Err (refusal_of n))) ∙ e)
  where
    by_length : (t : Bool) → has_length b ≡ t → (u : Bool) → permits to_board (get_or b 0 0) (fields_at (get_or b 0 0) b).number ≡ u
        → cond t (cond u (call_from (fields_at (get_or b 0 0) b)) (Err Refusal.Unlisted)) (Err Refusal.Length) ≡ Ok c
        → print (message to_board) (of_call c) ≡ b
    by_length true l true g h =
        message_print to_board (of_call c) ∙ call_same (fields_at (get_or b 0 0) b) c h
        ∙ sym (message_print to_board (fields_at (get_or b 0 0) b)) ∙ written_back to_board b bytes l g
    by_length true l false g h = cc
    by_length false l u g h = cc

pub call_message_lem : StatementCallMessage
unfolding read_call encode_call
call_message_lem b bytes c fits = (
  call_written b bytes c,
  (λ e.
      subst (λ (l : List ℕ). read_by to_board l call_from (λ n. Err (refusal_of n)) ≡ Ok c) e
      (read_back to_board (of_call c) fits (call_permitted c) call_from (λ n. Err (refusal_of n)) ∙ ap call_from (call_result c) ∙ call_from_lem c)),
)

reply_result : (r : Reply) → result (message to_host) (of_reply r) ≡ of_reply r
unfolding result
reply_result (Reply.Start p a n) = refl
reply_result Reply.Wait = refl
reply_result Reply.Done = refl
reply_result Reply.Taken = refl
reply_result (Reply.Refused f) = refl
reply_result (Reply.Stopped (Stop.Late p n)) = refl
reply_result (Reply.Stopped (Stop.Overdue p n)) = refl
reply_result (Reply.Stopped Stop.Full) = refl
reply_result (Reply.Stopped Stop.Beyond) = refl

pub reply_written : StatementReplyWritten
unfolding read_answer encode_reply
reply_written b bytes r e =
    by_length (has_length b) refl (permits to_host (get_or b 0 0) (fields_at (get_or b 0 0) b).number) refl (sym (read_by_lem to_host b reply_from (λ n. Err (refusal_of n))) ∙ e)
  where
    by_length : (t : Bool) → has_length b ≡ t → (u : Bool) → permits to_host (get_or b 0 0) (fields_at (get_or b 0 0) b).number ≡ u
        → cond t (cond u (reply_from (fields_at (get_or b 0 0) b)) (Err Refusal.Unlisted)) (Err Refusal.Length) ≡ Ok r
        → print (message to_host) (of_reply r) ≡ b
    by_length true l true g h =
        message_print to_host (of_reply r) ∙ reply_same (fields_at (get_or b 0 0) b) r h
        ∙ sym (message_print to_host (fields_at (get_or b 0 0) b)) ∙ written_back to_host b bytes l g
    by_length true l false g h = cc
    by_length false l u g h = cc

pub answer_message : StatementAnswerMessage
unfolding read_answer encode_reply
answer_message b bytes r fits = (
  reply_written b bytes r,
  (λ e.
      subst (λ (l : List ℕ). read_by to_host l reply_from (λ n. Err (refusal_of n)) ≡ Ok r) e
      (read_back to_host (of_reply r) fits (reply_permitted r) reply_from (λ n. Err (refusal_of n)) ∙ ap reply_from (reply_result r) ∙ reply_from_lem r)),
)
