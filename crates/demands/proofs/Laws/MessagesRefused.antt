-- `call_length_62`, `call_unlisted_61`, `answer_length_62`, `answer_unlisted_61`: each refusal of a message in its condition, and no
-- other (`only_these`).
use Rattle.std.specs.Prelude.{◌≡◌, refl, Bool, true, false, cond, ◌↔◌, List, ℕ, length, get_or, Result, Err, is_ok}
use Rattle.std.proofs.Common.{sym, ◌∙◌, ap, subst, true≢false, arith}
use Rattle.std.proofs.Math.Decide.{dec_le}
use Rattle.basis.proofs.Laws.Bools.{clash}
use Rattle.run_checks.specs.declared.Refusal.{Refusal}
use Rattle.link_messages.specs.declared.Message.{Message}
use Rattle.link_messages.specs.Message.{Direction, has_length, read_by}
use Rattle.link_messages.specs.Writing.{permits}
use Rattle.link_messages.proofs.Laws.Lengths.{its_length, of_its_length}
use Rattle.link_messages.proofs.Laws.Reading.{fields_at, read_by_lem, number_last}
use Rattle.link_calls.specs.Calls.{to_board, refusal_of, call_from, read_call}
use Rattle.link_calls.specs.Replies.{to_host, reply_from, read_answer}
use Rattle.demands.proofs.Laws.MessagesGood.{call_good, answer_good, says_call, says_reply}
use Rattle.demands.specs.Messages.{WrongLength, empty, other, last_of, OfMessage, by61, by62, OnlyThese, StatementCallLength62, StatementCallUnlisted61, StatementAnswerLength62, StatementAnswerUnlisted61}

-- ---- the length

module _ (b : List ℕ) where
  wrong_length : has_length b ≡ false → WrongLength b
  wrong_length e =
      elim (dec_le 1 (length b)) [
        | yes h ↦ other (λ l. clash (sym (of_its_length b (record { some = h; all = l })) ∙ e))
        | no h ↦ empty (omega arith)
      ]

  length_wrong : WrongLength b → has_length b ≡ true → ⊥
  length_wrong (empty h) e = absurd (omega (arith, (its_length b e).some))
  length_wrong (other h) e = h (its_length b e).all

-- ---- what a direction reads, by cases

module _ (d : Direction) (b : List ℕ) {A : Type 0} (value : Message → A) (wrong : ℕ → A) where
  abbrev good : Bool
  good = permits d (get_or b 0 0) (last_of b)

  by_cases : (P : A → Type 0)
      → (has_length b ≡ false → P (wrong 62))
      → (has_length b ≡ true → good ≡ false → P (wrong 61))
      → (has_length b ≡ true → good ≡ true → (s : Message) → permits d s.map s.number ≡ true → P (value s))
      → P (read_by d b value wrong)
  by_cases P at62 at61 else = subst P (sym (read_by_lem d b value wrong)) (go (has_length b) refl)
    where
      then : (t : Bool) → permits d (get_or b 0 0) (fields_at (get_or b 0 0) b).number ≡ t → has_length b ≡ true → P (cond t (value (fields_at (get_or b 0 0) b)) (wrong 61))
      then true e l = else l (sym (number_last d b l) ∙ e) (fields_at (get_or b 0 0) b) e
      then false e l = at61 l (sym (number_last d b l) ∙ e)

      go : (t : Bool) → has_length b ≡ t → P (cond t (cond (permits d (get_or b 0 0) (fields_at (get_or b 0 0) b).number) (value (fields_at (get_or b 0 0) b)) (wrong 61)) (wrong 62))
      go true e = then (permits d (get_or b 0 0) (fields_at (get_or b 0 0) b).number) refl e
      go false e = at62 e

-- a direction whose messages say a value, which is no refusal
module _ (d : Direction) {A : Type 0} (value : Message → Result A Refusal) (says : (s : Message) → permits d s.map s.number ≡ true → is_ok (value s) ≡ true) (b : List ℕ) where
  abbrev reads : Result A Refusal
  reads = read_by d b value (λ n. Err (refusal_of n))

  not_refused : (s : Message) → permits d s.map s.number ≡ true → (f : Refusal) → value s ≡ Err f → ⊥
  not_refused s h f e = true≢false (sym (says s h) ∙ ap is_ok e)

  length_iff : (reads ≡ Err Refusal.Length) ↔ WrongLength b
  length_iff =
      by_cases d b value (λ n. Err (refusal_of n)) (λ (a : Result A Refusal). (a ≡ Err Refusal.Length) ↔ WrongLength b)
      (λ e. ((λ h. wrong_length b e), λ w. refl))
      (λ l e. ((λ h. cc), λ w. absurd (length_wrong b w l)))
      (λ l e s h. ((λ q. absurd (not_refused s h Refusal.Length q)), λ w. absurd (length_wrong b w l)))

  unlisted_iff : (reads ≡ Err Refusal.Unlisted) ↔ ((WrongLength b → ⊥) × (permits d (get_or b 0 0) (last_of b) ≡ false))
  unlisted_iff =
      by_cases d b value (λ n. Err (refusal_of n)) (λ (a : Result A Refusal). (a ≡ Err Refusal.Unlisted) ↔ ((WrongLength b → ⊥) × (permits d (get_or b 0 0) (last_of b) ≡ false)))
      (λ e. ((λ h. cc), λ q. absurd (q.0 (wrong_length b e))))
      (λ l e. ((λ h. ((λ w. length_wrong b w l), e)), λ q. refl))
      (λ l e s h. ((λ q. absurd (not_refused s h Refusal.Unlisted q)), λ q. clash (sym e ∙ q.1)))

  only_two : (f : Refusal) → reads ≡ Err f → OfMessage f
  only_two =
      by_cases d b value (λ n. Err (refusal_of n)) (λ (a : Result A Refusal). (f : Refusal) → a ≡ Err f → OfMessage f)
      (λ e f h. let z : Refusal.Length ≡ f = cc in subst OfMessage z by62)
      (λ l e f h. let z : Refusal.Unlisted ≡ f = cc in subst OfMessage z by61)
      (λ l e s h f q. absurd (not_refused s h f q))

-- a test that is false, of a statement that it tells
pub denies : {t : Bool} {P : Type 0} → (t ≡ true) ↔ P → (t ≡ false) ↔ (P → ⊥)
denies {t} {P} tells = ((λ e p. true≢false (sym (tells.1 p) ∙ e)), go t tells)
  where
    go : (t : Bool) → (t ≡ true) ↔ P → (P → ⊥) → t ≡ false
    go true told n = absurd (n (told.0 refl))
    go false told n = refl

-- ---- to the board

pub call_length_62 : StatementCallLength62
unfolding read_call
call_length_62 b = length_iff to_board call_from says_call b

pub call_unlisted_61 : StatementCallUnlisted61
unfolding read_call
call_unlisted_61 b =
    let i = unlisted_iff to_board call_from says_call b in
    let g = denies (call_good (get_or b 0 0) (last_of b)) in (
      (λ e. let u = i.0 e in record { its_length = u.0; unlisted = g.0 u.1 }),
      λ u. i.1 (u.its_length, g.1 u.unlisted),
    )

-- ---- to the host

pub answer_length_62 : StatementAnswerLength62
unfolding read_answer
answer_length_62 b = length_iff to_host reply_from says_reply b

pub answer_unlisted_61 : StatementAnswerUnlisted61
unfolding read_answer
answer_unlisted_61 b =
    let i = unlisted_iff to_host reply_from says_reply b in
    let g = denies (answer_good (get_or b 0 0) (last_of b)) in (
      (λ e. let u = i.0 e in record { its_length = u.0; unlisted = g.0 u.1 }),
      λ u. i.1 (u.its_length, g.1 u.unlisted),
    )

pub only_these : OnlyThese
unfolding read_call read_answer
only_these = record {
  call = λ b. only_two to_board call_from says_call b;
  answer = λ b. only_two to_host reply_from says_reply b;
  is61 = refl;
  is62 = refl;
}
