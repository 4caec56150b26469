-- The whole text, how long it is, and the buffer at the end.
use Rattle.std.specs.Prelude.{Some, None, Result, Ok, Err}
use mathlib.Core.Path.{◌≡◌, sym, ◌∙◌}
use mathlib.Core.Bool.{Bool, true, false, not}
use mathlib.Core.List.{List, ◌++◌}
use Prim.Native.Nat.{ℕ, ◌+◌, ◌-◌, ◌≤◌}
use native.Mathlib.Decide.{dec_le}
use native.Mathlib.Omega.{arith}
use lib.ListN.{length, length-append}
use lib.Dec.{leb}
use borrow.Author.Tests.{le-leb, lt-leb, leb-true, leb-false, not-true, not-false}
use Rattle.wire.specs.Puts.{Puts}
use Rattle.wire.proofs.Laws.Puts.{puts_join}
use Rattle.run.specs.declared.Opened.{Opened}
use Rattle.drive_input.specs.declared.Head.{Head}
use Rattle.drive_input.specs.Input.{parts_at, head_of}
use Rattle.drive_input.proofs.Laws.Whole.{whole_is, not_whole}
use Rattle.drive_records.specs.declared.Record.{Record}
use Rattle.drive_records.specs.Records.{record_bytes, opening_record}
use Rattle.drive_records.proofs.Laws.Records.{record_length}
use Rattle.drive.specs.declared.NotRecorded.{NotRecorded}
use Rattle.drive.specs.Drive.{opened_by}
use Rattle.drive.proofs.Laws.Lent.{leaves_none, leaves_short, leaves_all}
use Rattle.link_drive.specs.LinkDrive.{messages_from, link_text, linked_of, link_buffer}
use Rattle.link_drive.specs.Inner.Answers.{answers_from}
use Rattle.link_drive.proofs.Turns.{counted}

-- the opening's record apart
pub behind_record : (t : Bool) (n room : ℕ) → 16 ≤ room → t ≡ leb n (room - 16) → t ≡ leb (16 + n) room
behind_record t n room h e =
    elim (dec_le (16 + n) room) [
      | yes f ↦ e ∙ le-leb n (room - 16) (omega arith) ∙ sym (le-leb (16 + n) room f)
      | no f ↦ e ∙ lt-leb n (room - 16) (omega arith) ∙ sym (lt-leb (16 + n) room (omega arith))
    ]

abbrev Left : List ℕ → List ℕ → Result ℕ NotRecorded → List ℕ → Type 0
Left b out r after = (r ≡ linked_of b out) × (after ≡ link_buffer b out)

pub no_opening : (b out : List ℕ) → head_of b ≡ None → Left b out (Ok 0) out
unfolding link_text linked_of link_buffer
no_opening b out e = rw (not_whole b e) (leaves_none out)

module _ (b : List ℕ) (h : Head) (e : head_of b ≡ Some h) (messages : ℕ) (all : messages ≡ length (messages_from (length b) b h.parts))
    (o : Opened) (is : o ≡ opened_by b h) where
  abbrev answers : List ℕ
  answers = answers_from messages o.run b h.parts

  text_is : link_text b ≡ record_bytes (opening_record o.opening) ++ answers
  unfolding link_text
  text_is =
      let w = whole_is b h e in
      rw (is, all, counted (length b) b h.parts, w.is, le-leb (parts_at b) (length b) w.fits)

  text_length : length (link_text b) ≡ 16 + length answers
  text_length = rw (text_is, length-append) (omega (arith, record_length (opening_record o.opening)))

  -- t: whether it fits
  module _ (out : List ℕ) (t : Bool) (told : t ≡ leb (16 + length answers) (length out)) where
    pub too_short : not t ≡ true → Left b out (Err NotRecorded.TooShort) out
    unfolding linked_of link_buffer
    too_short n =
        leaves_short (link_text b) out
        (omega (arith, text_length, leb-false (16 + length answers) (length out) (sym told ∙ not-true t n)))

    module _ (fits : not t ≡ false) where
      pub room : 16 + length answers ≤ length out
      room = leb-true (16 + length answers) (length out) (sym told ∙ not-false t fits)

      pub all_written : (r : Record) → r ≡ opening_record o.opening
          → {mid after : List ℕ} {past last : ℕ} → Puts out 0 (record_bytes r) mid past → Puts mid past answers after last
          → Left b out (Ok last) after
      unfolding linked_of link_buffer
      all_written r kind {mid} {after} {past} {last} p q =
          leaves_all (link_text b) out (omega (arith, text_length, room)) after last (rw (text_is, ← kind) (puts_join p q))
