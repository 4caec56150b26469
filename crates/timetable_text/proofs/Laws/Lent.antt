-- Text put into a lent buffer: where it fits, and where it does not. Assumes nothing.
use Rattle.std.specs.Prelude.{◌≡◌, List, ℕ, ◌+◌, ◌≤◌, ◌<◌, take, drop, Result, Ok, Err}
use Rattle.std.proofs.Common.{sym, ap, ◌∙◌, subst, zero-add, arith, le-leb, length-take-le}
use Rattle.std.proofs.lemmas.Bool.{lt-leb}
use Rattle.std.proofs.Math.ListN.{length}
use Rattle.std.proofs.lemmas.List.Edits.{sets, sets-eq}
use Rattle.std.proofs.Math.Seq.{take-append_seam}
use Rattle.wire.specs.Puts.{Puts}
use Rattle.wire.proofs.Laws.Puts.{puts_length}
use Rattle.timetable_text.specs.declared.NotPut.{NotPut}
use Rattle.timetable_text.specs.Lent.{put_of, buffer_of, past_of, Lends}

module _ (out : List ℕ) (at : ℕ) (text : List ℕ) where
  pub put_short : length out < at + length text → put_of out at text ≡ Err NotPut.TooShort
  unfolding put_of
  put_short h = rw (lt-leb (at + length text) (length out) h)

  pub put_past : at + length text ≤ length out → put_of out at text ≡ Ok (at + length text)
  unfolding put_of
  put_past h = rw (le-leb (at + length text) (length out) h)

  pub buffer_short : length out < at + length text → buffer_of out at text ≡ out
  unfolding buffer_of
  buffer_short h = rw (lt-leb (at + length text) (length out) h)

  pub buffer_past : at + length text ≤ length out → buffer_of out at text ≡ sets out at text
  unfolding buffer_of
  buffer_past h = rw (le-leb (at + length text) (length out) h) (sym (sets-eq text out at h))

  -- a refusal: 36, and the buffer as it was
  pub lends_short : length out < at + length text → Lends out at text out (Err NotPut.TooShort)
  lends_short h = record { put = sym (put_short h); left = sym (buffer_short h) }

  pub lends_past : at + length text ≤ length out → (after : List ℕ) (next : ℕ) → Puts out at text after next → Lends out at text after (Ok next)
  lends_past h after next p =
      record { put = ap Ok p.past ∙ sym (put_past h); left = p.left ∙ sym (buffer_past h) }

  -- where there is room, what a writer left is the text put
  pub lent_puts : at + length text ≤ length out → (after : List ℕ) (r : Result ℕ NotPut) → Lends out at text after r → Puts out at text after (past_of at r)
  lent_puts h after r l =
      record { past = ap (past_of at) (l.put ∙ put_past h); left = l.left ∙ buffer_past h }

-- the first n bytes of a text, copied
module _ (out : List ℕ) (at : ℕ) (text : List ℕ) (n : ℕ) (h : n ≤ length text) where
  pub lends_copied : at + n ≤ length out → (after : List ℕ) (next : ℕ) → Puts out at (take n text) after next → Lends out at (take n text) after (Ok next)
  lends_copied k after next p = let z = length-take-le n text h in lends_past out at (take n text) (omega arith) after next p

  pub lends_nothing : length out < at + n → Lends out at (take n text) out (Err NotPut.TooShort)
  lends_nothing k = let z = length-take-le n text h in lends_short out at (take n text) (omega arith)

-- text at the front of a buffer that has room for it
pub put_front : (before text after : List ℕ) (next : ℕ) → length text ≤ length before → Puts before 0 text after next → take next after ≡ text
put_front before text after next h p =
    rw (p.past ∙ zero-add (length text), p.left, sets-eq text before 0 (omega arith)) (take-append_seam text (drop (0 + length text) before))

pub lends_as : (before : List ℕ) (at : ℕ) (text line after : List ℕ) (r : Result ℕ NotPut) → text ≡ line → Lends before at text after r → Lends before at line after r
lends_as before at text line after r e l = subst (λ (x : List ℕ). Lends before at x after r) e l

-- text that was put at the front of a buffer of its own, and lent from there
pub lends_front : (own text own' : List ℕ) (next : ℕ) → length text ≤ length own → Puts own 0 text own' next → (before : List ℕ) (at : ℕ) (after : List ℕ) (r : Result ℕ NotPut) → Lends before at (take next own') after r → Lends before at text after r
lends_front own text own' next h p before at after r l = lends_as before at (take next own') text after r (put_front own text own' next h p) l

-- and the part that is lent is there
pub front_there : (own text own' : List ℕ) (next : ℕ) → length text ≤ length own → Puts own 0 text own' next → next ≤ length own'
front_there own text own' next h p = let u = puts_length p in let v = p.past in omega arith
