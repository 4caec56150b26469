-- `sent_call`, `sent_answer`: a writer answers 61, 36 or the bytes, each in its condition. `lent`, `writer_numbers`: what it leaves in
-- the buffer, and its numbers. `never_61`: of the message of a call, and of a reply.
use Rattle.std.specs.Prelude.{◌≡◌, Bool, cond, List, ◌++◌, ◌↔◌, ℕ, length, take, Result, Ok, Err}
use Rattle.std.proofs.Math.Path.{refl}
use Rattle.std.proofs.Common.{sym, ◌∙◌, subst, true≢false, arith, length-append, length-drop}
use Rattle.std.proofs.Math.Bool.{true, false}
use Rattle.std.proofs.Math.ListN.{drop}
use Rattle.std.proofs.Math.Seq.{take-append_seam, drop-append_seam}
use Rattle.std.proofs.Math.Dec.{leb}
use borrow.Author.Tests.{leb-true, leb-false, le-leb, lt-leb}
use Rattle.format.specs.Format.{print}
use Rattle.link_messages.specs.declared.Message.{Message}
use Rattle.link_messages.specs.declared.NotSent.{NotSent}
use Rattle.link_messages.specs.Message.{Direction, message}
use Rattle.link_messages.specs.Writing.{permits, sent_of, buffer_of}
use Rattle.link_messages.proofs.Laws.Lengths.{message_length}
use Rattle.link_calls.specs.Calls.{to_board, of_call}
use Rattle.link_calls.specs.Replies.{to_host, of_reply}
use Rattle.link_calls.proofs.Laws.Listed.{call_permitted, reply_permitted}
use Rattle.demands.proofs.Laws.MessagesGood.{call_good, answer_good}
use Rattle.demands.proofs.Laws.MessagesRefused.{denies}
use Rattle.demands.specs.Messages.{Sends, unlisted, short, written, WriterNumbers, Never61, StatementSentCall, StatementSentAnswer, StatementLent}

module _ (d : Direction) (s : Message) (out : List ℕ) where
  abbrev bytes : List ℕ
  bytes = print (message d) s

  -- each answer with its buffer, by the two tests
  by_tests : (P : Result ℕ NotSent → List ℕ → Type 0)
      → (permits d s.map s.number ≡ false → P (Err NotSent.Unlisted) out)
      → (permits d s.map s.number ≡ true → leb (length bytes) (length out) ≡ false → P (Err NotSent.TooShort) out)
      → (permits d s.map s.number ≡ true → leb (length bytes) (length out) ≡ true → P (Ok (length bytes)) (bytes ++ drop (length bytes) out))
      → P (sent_of d s out) (buffer_of d s out)
  unfolding sent_of buffer_of
  by_tests P at61 at36 wrote = go (permits d s.map s.number) refl (leb (length bytes) (length out)) refl
    where
      go : (t : Bool) → permits d s.map s.number ≡ t → (u : Bool) → leb (length bytes) (length out) ≡ u
          → P (cond t (cond u (Ok (length bytes)) (Err NotSent.TooShort)) (Err NotSent.Unlisted)) (cond t (cond u (bytes ++ drop (length bytes) out) out) out)
      go true e true f = wrote e f
      go true e false f = at36 e f
      go false e u f = at61 e

  module _ (Good : Type 0) (tells : (permits d s.map s.number ≡ true) ↔ Good) where
    sends : Sends Good s out (sent_of d s out)
    sends =
        by_tests (λ (w : Result ℕ NotSent) (l : List ℕ). Sends Good s out w)
        (λ e. unlisted ((denies tells).0 e))
        (λ e f. short (tells.0 e) (omega (arith, leb-false (length bytes) (length out) f, message_length d s)))
        (λ e f. subst (λ (n : ℕ). Sends Good s out (Ok n)) (sym (message_length d s)) (written (tells.0 e) (omega (arith, leb-true (length bytes) (length out) f, message_length d s))))

    gives : (w : Result ℕ NotSent) → Sends Good s out w → sent_of d s out ≡ w
    unfolding sent_of
    gives w (unlisted n) = rw ((denies tells).1 n)
    gives w (short g l) = rw (tells.1 g, lt-leb (length bytes) (length out) (omega (arith, message_length d s)))
    gives w (written g l) = rw (tells.1 g, le-leb (length bytes) (length out) (omega (arith, message_length d s)), message_length d s)

    sent_iff : (w : Result ℕ NotSent) → (sent_of d s out ≡ w) ↔ Sends Good s out w
    sent_iff w = ((λ e. subst (Sends Good s out) e sends), gives w)

pub sent_call : StatementSentCall
sent_call s out = sent_iff to_board s out _ (call_good s.map s.number)

pub sent_answer : StatementSentAnswer
sent_answer s out = sent_iff to_host s out _ (answer_good s.map s.number)

-- ---- the buffer

-- of an answer and its buffer: what holds where bytes were written
module _ (d : Direction) (s : Message) (out : List ℕ) (P : ℕ → List ℕ → Type 0) where
  where_written : (leb (length (print (message d) s)) (length out) ≡ true → P (length (print (message d) s)) (print (message d) s ++ drop (length (print (message d) s)) out))
      → (n : ℕ) → sent_of d s out ≡ Ok n → P n (buffer_of d s out)
  where_written h =
      by_tests d s out (λ (w : Result ℕ NotSent) (l : List ℕ). (n : ℕ) → w ≡ Ok n → P n l)
      (λ e n f. cc)
      (λ e g n f. cc)
      (λ e g n f. let z : length (print (message d) s) ≡ n = cc in subst (λ (k : ℕ). P k (print (message d) s ++ drop (length (print (message d) s)) out)) z (h g))

pub lent : StatementLent
lent d s out = record {
  refused =
      by_tests d s out (λ (w : Result ℕ NotSent) (l : List ℕ). (n : NotSent) → w ≡ Err n → l ≡ out)
      (λ e n f. refl)
      (λ e g n f. refl)
      (λ e g n f. cc);
  front = where_written d s out (λ (n : ℕ) (l : List ℕ). take n l ≡ print (message d) s) (λ g. take-append_seam (print (message d) s) _);
  behind = where_written d s out (λ (n : ℕ) (l : List ℕ). drop n l ≡ drop n out) (λ g. drop-append_seam (print (message d) s) _);
  as_long =
      where_written d s out (λ (n : ℕ) (l : List ℕ). length l ≡ length out)
      (λ g.
      length-append (print (message d) s) _
      ∙ omega (arith, length-drop (length (print (message d) s)) out, leb-true (length (print (message d) s)) (length out) g));
}

pub writer_numbers : WriterNumbers
writer_numbers = record { is61 = refl; is36 = refl; place = λ n. refl }

permitted : (d : Direction) (s : Message) (out : List ℕ) → permits d s.map s.number ≡ true → sent_of d s out ≡ Err NotSent.Unlisted → ⊥
permitted d s out good e =
    by_tests d s out (λ (w : Result ℕ NotSent) (l : List ℕ). w ≡ Err NotSent.Unlisted → ⊥)
    (λ f q. true≢false (sym good ∙ f))
    (λ f g q. cc)
    (λ f g q. cc)
    e

pub never_61 : Never61
never_61 = record {
  call = λ c out. permitted to_board (of_call c) out (call_permitted c);
  reply = λ r out. permitted to_host (of_reply r) out (reply_permitted r);
}
