-- A message that says a call or a reply has the bytes of that call or reply.
use Rattle.std.specs.Prelude.{◌≡◌, refl, Bool, true, false, cond, List, [], ◌∷◌, ℕ, eqb, Result, Ok, Err}
use Rattle.std.proofs.Common.{sym, ◌∙◌, ap, subst, eqb-true}
use Rattle.run.specs.declared.Call.{Call}
use Rattle.run.specs.declared.Reply.{Reply}
use Rattle.run_checks.specs.declared.Refusal.{Refusal}
use Rattle.run_checks.specs.declared.Stop.{Stop}
use Rattle.link_messages.specs.declared.Message.{Message}
use Rattle.link_messages.specs.Inner.Bytes.{message_bytes}
use Rattle.link_calls.specs.Calls.{clock, of_call, call_from}
use Rattle.link_calls.specs.Replies.{reply_number, numbered, naming, with_number, plain, named, of_reply, reply_from}

-- ---- calls

pub no_call : {f : Refusal} {c : Call} → Err f ≡ Ok c → ⊥
no_call {f} {c} e = cc

module _ (s : Message) (c : Call) where
  pub call_same : call_from s ≡ Ok c → message_bytes (of_call c) ≡ message_bytes s
  call_same e = go (eqb s.map 0x01) refl (eqb s.map 0x07) refl (eqb s.map 0x0F) refl e
    where
      is : (d : Call) → d ≡ c → message_bytes (of_call d) ≡ message_bytes s → message_bytes (of_call c) ≡ message_bytes s
      is d same h = subst (λ (x : Call). message_bytes (of_call x) ≡ message_bytes s) same h

      go : (t : Bool) → eqb s.map 0x01 ≡ t → (u : Bool) → eqb s.map 0x07 ≡ u → (v : Bool) → eqb s.map 0x0F ≡ v
          → cond t (Ok (Call.Ask (clock s.reading)))
          (cond u (Ok (Call.Completion (clock s.reading) s.position s.node))
          (cond v (Ok (Call.Outcome (clock s.reading) s.position s.node s.outcome)) (Err Refusal.Unlisted)))
          ≡ Ok c
          → message_bytes (of_call c) ≡ message_bytes s
      go true p u q v r h = is (Call.Ask (clock s.reading)) (cc) (rw (eqb-true s.map 0x01 p))
      go false p true q v r h = is (Call.Completion (clock s.reading) s.position s.node) (cc) (rw (eqb-true s.map 0x07 q))
      go false p false q true r h = is (Call.Outcome (clock s.reading) s.position s.node s.outcome) (cc) (rw (eqb-true s.map 0x0F r))
      go false p false q false r h = cc

-- what is read of a call's message is the call
pub call_from_lem : (c : Call) → call_from (of_call c) ≡ Ok c
call_from_lem (Call.Ask t) = refl
call_from_lem (Call.Completion t p n) = refl
call_from_lem (Call.Outcome t p n o) = refl

-- ---- replies

pub no_reply : {f : Refusal} {r : Reply} → Err f ≡ Ok r → ⊥
no_reply {f} {r} e = cc

-- P of each reply of a list
abbrev pub Each : (Reply → Type 0) → List Reply → Type 0
Each P [] = Unit {0}
Each P (r ∷ rs) = P r × Each P rs

-- the reply that is found has the number, and what each reply of the list has
found : (P : Reply → Type 0) (x : ℕ) (rs : List Reply) → Each P rs → (r : Reply) → with_number x rs ≡ Ok r → (x ≡ reply_number r) × P r
found P x [] h r e = cc
found P x (q ∷ rs) h r e = go (eqb x (reply_number q)) refl e (found P x rs h.1 r)
  where
    go : (t : Bool) → eqb x (reply_number q) ≡ t → cond t (Ok q) (with_number x rs) ≡ Ok r
        → (with_number x rs ≡ Ok r → (x ≡ reply_number r) × P r) → (x ≡ reply_number r) × P r
    go true p f later = subst (λ (y : Reply). (x ≡ reply_number y) × P y) (cc) (eqb-true x (reply_number q) p, h.0)
    go false p f later = later f

plain_each : Each (λ r. of_reply r ≡ plain 0x20 (reply_number r)) numbered
plain_each = (refl, (refl, (refl, (refl, (refl, (refl, (refl, (refl, (refl, (refl, tt))))))))))

named_each : (p n : ℕ) → Each (λ r. of_reply r ≡ named p n (reply_number r)) (naming p n)
named_each p n = (refl, (refl, tt))

module _ (s : Message) (r : Reply) where
  is : (q : Reply) → q ≡ r → message_bytes (of_reply q) ≡ message_bytes s → message_bytes (of_reply r) ≡ message_bytes s
  is q same h = subst (λ (x : Reply). message_bytes (of_reply x) ≡ message_bytes s) same h

  by_number : s.map ≡ 0x20 → with_number s.number numbered ≡ Ok r → message_bytes (of_reply r) ≡ message_bytes s
  by_number m e =
      let f = found (λ q. of_reply q ≡ plain 0x20 (reply_number q)) s.number numbered plain_each r e in
      ap message_bytes (f.1 ∙ ap (plain 0x20) (sym f.0)) ∙ rw m

  by_node : s.map ≡ 0x26 → with_number s.number (naming s.position s.node) ≡ Ok r → message_bytes (of_reply r) ≡ message_bytes s
  by_node m e =
      let f = found (λ q. of_reply q ≡ named s.position s.node (reply_number q)) s.number (naming s.position s.node) (named_each s.position s.node) r e in
      ap message_bytes (f.1 ∙ ap (named s.position s.node) (sym f.0)) ∙ rw m

  pub reply_same : reply_from s ≡ Ok r → message_bytes (of_reply r) ≡ message_bytes s
  reply_same e = first (eqb s.map 0x16) refl e
    where
      last : (t : Bool) → eqb s.map 0x20 ≡ t → (u : Bool) → eqb s.map 0x26 ≡ u
          → cond t (with_number s.number numbered) (cond u (with_number s.number (naming s.position s.node)) (Err Refusal.Unlisted)) ≡ Ok r
          → message_bytes (of_reply r) ≡ message_bytes s
      last true p u q h = by_number (eqb-true s.map 0x20 p) h
      last false p true q h = by_node (eqb-true s.map 0x26 q) h
      last false p false q h = cc

      rest : Result Reply Refusal
      rest =
          cond (eqb s.map 0x20) (with_number s.number numbered)
          (cond (eqb s.map 0x26) (with_number s.number (naming s.position s.node)) (Err Refusal.Unlisted))

      middle : (t : Bool) → eqb s.map 0x00 ≡ t → (u : Bool) → eqb s.map 0x40 ≡ u → (v : Bool) → eqb s.map 0x80 ≡ v
          → cond t (Ok Reply.Wait) (cond u (Ok Reply.Done) (cond v (Ok Reply.Taken) rest)) ≡ Ok r
          → message_bytes (of_reply r) ≡ message_bytes s
      middle true p u q v w h = is Reply.Wait (cc) (rw (eqb-true s.map 0x00 p))
      middle false p true q v w h = is Reply.Done (cc) (rw (eqb-true s.map 0x40 q))
      middle false p false q true w h = is Reply.Taken (cc) (rw (eqb-true s.map 0x80 w))
      middle false p false q false w h = last (eqb s.map 0x20) refl (eqb s.map 0x26) refl h

      first : (t : Bool) → eqb s.map 0x16 ≡ t
          → cond t (Ok (Reply.Start s.position s.activity s.node))
          (cond (eqb s.map 0x00) (Ok Reply.Wait) (cond (eqb s.map 0x40) (Ok Reply.Done) (cond (eqb s.map 0x80) (Ok Reply.Taken) rest)))
          ≡ Ok r
          → message_bytes (of_reply r) ≡ message_bytes s
      first true p h = is (Reply.Start s.position s.activity s.node) (cc) (rw (eqb-true s.map 0x16 p))
      first false p h = middle (eqb s.map 0x00) refl (eqb s.map 0x40) refl (eqb s.map 0x80) refl h

-- what is read of a reply's message is the reply
pub reply_from_lem : (r : Reply) → reply_from (of_reply r) ≡ Ok r
reply_from_lem (Reply.Start p a n) = refl
reply_from_lem Reply.Wait = refl
reply_from_lem Reply.Done = refl
reply_from_lem Reply.Taken = refl
reply_from_lem (Reply.Refused Refusal.OutOfLimits) = refl
reply_from_lem (Reply.Refused Refusal.ReadingBelow) = refl
reply_from_lem (Reply.Refused Refusal.NoSuchNode) = refl
reply_from_lem (Reply.Refused Refusal.NotStarted) = refl
reply_from_lem (Reply.Refused Refusal.OtherKind) = refl
reply_from_lem (Reply.Refused Refusal.OutcomeLacking) = refl
reply_from_lem (Reply.Refused Refusal.Unlisted) = refl
reply_from_lem (Reply.Refused Refusal.Length) = refl
reply_from_lem (Reply.Stopped (Stop.Late p n)) = refl
reply_from_lem (Reply.Stopped (Stop.Overdue p n)) = refl
reply_from_lem (Reply.Stopped Stop.Full) = refl
reply_from_lem (Reply.Stopped Stop.Beyond) = refl
