-- What each message is read as, by its map: its numbers stand at fixed offsets.
use Rattle.std.specs.Prelude.{◌≡◌, refl, Bool, true, false, cond, List, [], ◌∷◌, ℕ, get_or, eqb, Ok, Err, is_ok}
use Rattle.std.proofs.Common.{◌∙◌, ap, ap₂, arith}
use Rattle.wire.specs.Number.{little}
use Rattle.run.specs.declared.Call.{Call}
use Rattle.run.specs.declared.Reply.{Reply}
use Rattle.run_checks.specs.declared.Refusal.{Refusal}
use Rattle.run_checks.specs.declared.Stop.{Stop}
use Rattle.link_messages.specs.declared.Message.{Message}
use Rattle.link_messages.specs.Message.{Direction, has_length}
use Rattle.link_messages.specs.Writing.{permits}
use Rattle.link_messages.proofs.Laws.Reading.{fields_at, read_by_lem}
use Rattle.link_calls.specs.Calls.{by_call_map, to_board, clock, refusal_of, call_from, read_call}
use Rattle.link_calls.specs.Replies.{by_reply_map, reply_number, numbered, naming, with_number, to_host, reply_from, read_answer}

-- a number of one byte
one : (b : List ℕ) (at : ℕ) → little 1 b at ≡ get_or b at 0
one b at = omega arith

-- what a direction reads of a message of map m
abbrev read_as : {A : Type 0} → Direction → ℕ → List ℕ → (Message → A) → (Refusal → A) → A
read_as d m b value wrong = cond (permits d m (fields_at m b).number) (value (fields_at m b)) (wrong Refusal.Unlisted)

-- a number that no answer has is refused, which is what is read of it
kept : (x : ℕ) (rs : List Reply) → cond (is_ok (with_number x rs)) (with_number x rs) (Err Refusal.Unlisted) ≡ with_number x rs
kept x [] = refl
kept x (r ∷ rs) = go (eqb x (reply_number r)) (kept x rs)
  where
    go : (t : Bool) → cond (is_ok (with_number x rs)) (with_number x rs) (Err Refusal.Unlisted) ≡ with_number x rs
        → cond (is_ok (cond t (Ok r) (with_number x rs))) (cond t (Ok r) (with_number x rs)) (Err Refusal.Unlisted)
        ≡ cond t (Ok r) (with_number x rs)
    go true h = refl
    go false h = h

-- the stops that name a node have the same numbers, whichever it is
kept_node : (x p n : ℕ) → cond (is_ok (with_number x (naming 0 0))) (with_number x (naming p n)) (Err Refusal.Unlisted) ≡ with_number x (naming p n)
kept_node x p n = go (eqb x 41) (eqb x 42)
  where
    by : {A : Type 0} → Bool → Bool → A → A → A → A
    by t u late overdue none = cond t late (cond u overdue none)

    go : (t u : Bool)
        → cond (is_ok (by t u (Ok (Reply.Stopped (Stop.Late 0 0))) (Ok (Reply.Stopped (Stop.Overdue 0 0))) (Err Refusal.Unlisted)))
        (by t u (Ok (Reply.Stopped (Stop.Late p n))) (Ok (Reply.Stopped (Stop.Overdue p n))) (Err Refusal.Unlisted))
        (Err Refusal.Unlisted)
        ≡ by t u (Ok (Reply.Stopped (Stop.Late p n))) (Ok (Reply.Stopped (Stop.Overdue p n))) (Err Refusal.Unlisted)
    go true u = refl
    go false true = refl
    go false false = refl

module _ (b : List ℕ) where
  module _ (m : ℕ) (is : get_or b 0 0 ≡ m) (long : has_length b ≡ true) where
    reads_call : read_call b ≡ read_as to_board m b call_from Err
    unfolding read_call
    reads_call = read_by_lem to_board b call_from (λ n. Err (refusal_of n)) ∙ rw (long, is)

    reads_reply : read_answer b ≡ read_as to_host m b reply_from Err
    unfolding read_answer
    reads_reply = read_by_lem to_host b reply_from (λ n. Err (refusal_of n)) ∙ rw (long, is)

  -- ---- to the board

  pub call_length : has_length b ≡ false → read_call b ≡ Err Refusal.Length
  unfolding read_call
  call_length short = read_by_lem to_board b call_from (λ n. Err (refusal_of n)) ∙ rw short

  module _ (long : has_length b ≡ true) where
    pub call_unlisted : by_call_map (get_or b 0 0) true true true false ≡ false → read_call b ≡ Err Refusal.Unlisted
    call_unlisted e = reads_call (get_or b 0 0) refl long ∙ rw e

    pub reads_ask : get_or b 0 0 ≡ 0x01 → read_call b ≡ Ok (Call.Ask (clock (little 8 b 1)))
    reads_ask e = reads_call 0x01 e long

    pub reads_completion : get_or b 0 0 ≡ 0x07 → read_call b ≡ Ok (Call.Completion (clock (little 8 b 1)) (little 4 b 9) (get_or b 13 0))
    reads_completion e = reads_call 0x07 e long ∙ ap (λ (n : ℕ). Ok (Call.Completion (clock (little 8 b 1)) (little 4 b 9) n)) (one b 13)

    pub reads_outcome : get_or b 0 0 ≡ 0x0F → read_call b ≡ Ok (Call.Outcome (clock (little 8 b 1)) (little 4 b 9) (get_or b 13 0) (get_or b 14 0))
    reads_outcome e =
        reads_call 0x0F e long
        ∙ ap₂ (λ (n o : ℕ). Ok (Call.Outcome (clock (little 8 b 1)) (little 4 b 9) n o)) (one b 13) (one b 14)

  -- ---- to the host

  pub answer_length : has_length b ≡ false → read_answer b ≡ Err Refusal.Length
  unfolding read_answer
  answer_length short = read_by_lem to_host b reply_from (λ n. Err (refusal_of n)) ∙ rw short

  module _ (long : has_length b ≡ true) where
    pub answer_unlisted : by_reply_map (get_or b 0 0) true true true true true true false ≡ false → read_answer b ≡ Err Refusal.Unlisted
    answer_unlisted e = reads_reply (get_or b 0 0) refl long ∙ rw e

    pub reads_start : get_or b 0 0 ≡ 0x16 → read_answer b ≡ Ok (Reply.Start (little 4 b 1) (get_or b 6 0) (get_or b 5 0))
    reads_start e =
        reads_reply 0x16 e long ∙ ap₂ (λ (a n : ℕ). Ok (Reply.Start (little 4 b 1) a n)) (one b 6) (one b 5)

    pub reads_wait : get_or b 0 0 ≡ 0x00 → read_answer b ≡ Ok Reply.Wait
    reads_wait e = reads_reply 0x00 e long

    pub reads_done : get_or b 0 0 ≡ 0x40 → read_answer b ≡ Ok Reply.Done
    reads_done e = reads_reply 0x40 e long

    pub reads_taken : get_or b 0 0 ≡ 0x80 → read_answer b ≡ Ok Reply.Taken
    reads_taken e = reads_reply 0x80 e long

    pub reads_number : get_or b 0 0 ≡ 0x20 → read_answer b ≡ with_number (get_or b 1 0) numbered
    reads_number e = reads_reply 0x20 e long ∙ kept (little 1 b 1) numbered ∙ ap (λ (x : ℕ). with_number x numbered) (one b 1)

    pub reads_node : get_or b 0 0 ≡ 0x26 → read_answer b ≡ with_number (get_or b 6 0) (naming (little 4 b 1) (get_or b 5 0))
    reads_node e =
        reads_reply 0x26 e long
        ∙ kept_node (little 1 b 6) (little 4 b 1) (little 1 b 5)
        ∙ ap₂ (λ (x n : ℕ). with_number x (naming (little 4 b 1) n)) (one b 6) (one b 5)
