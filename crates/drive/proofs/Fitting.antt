-- How long the records are, and the buffer at the end.
use Rattle.std.specs.Prelude.{Some, None, Result, Ok, Err}
use mathlib.Core.Path.{◌≡◌, refl, ◌∙◌, ap}
use mathlib.Core.List.{List, [], ◌∷◌}
use Prim.Native.Nat.{ℕ, ◌+◌, ◌*◌, ◌/◌, ◌≤◌, ◌<◌}
use native.Mathlib.Omega.{arith}
use lib.ListN.{length, length-append}
use Rattle.wire.specs.Puts.{Puts}
use Rattle.drive_input.specs.declared.Head.{Head}
use Rattle.drive_records.specs.declared.Record.{Record}
use Rattle.drive.specs.declared.NotRecorded.{NotRecorded}
use Rattle.drive_input.specs.Input.{head_of}
use Rattle.drive_input.proofs.Laws.Whole.{not_whole}
use Rattle.drive.specs.Drive.{opened_by}
use Rattle.drive_records.specs.Records.{opening_record}
use Rattle.drive.specs.Drive.{parts_from, parts_of, records_from, records_of, joined, text_of, recorded_of, buffer_of}
use Rattle.drive_records.proofs.Laws.Records.{record_length}
use Rattle.drive.proofs.Turns.{text_whole, parts_same}
use Rattle.drive.proofs.Laws.Records.{records_length}
use Rattle.drive.proofs.Laws.Lent.{leaves_none, leaves_short, leaves_all}

joined_length : (rs : List Record) → length (joined rs) ≡ 16 * length rs
joined_length [] = refl
joined_length (r ∷ rs) = rw length-append (omega (arith, record_length r, joined_length rs))

abbrev Left : List ℕ → List ℕ → Result ℕ NotRecorded → List ℕ → Type 0
Left b out r after = (r ≡ recorded_of b out) × (after ≡ buffer_of b out)

module _ (b out : List ℕ) where
  pub no_opening : head_of b ≡ None → Left b out (Ok 0) out
  unfolding records_of recorded_of buffer_of
  no_opening e = rw (not_whole b e) (leaves_none out)

  module _ (h : Head) (e : head_of b ≡ Some h) (parts : ℕ) (all : parts ≡ length (parts_from (length b) b h.parts)) where
    pub all_parts : parts ≡ length (parts_of b)
    all_parts = all ∙ ap length (parts_same b h e)

    text_length : length (text_of b) ≡ 16 + 16 * parts
    text_length =
        rw (text_whole b h e, length-append)
        (omega (
          arith,
          record_length (opening_record (opened_by b h).opening),
          joined_length (records_from (opened_by b h).run (parts_of b)),
          records_length (opened_by b h).run (parts_of b),
          all_parts,
        ))

    pub too_short : length out / 16 ≤ parts → Left b out (Err NotRecorded.TooShort) out
    unfolding recorded_of buffer_of
    too_short s = leaves_short (text_of b) out (omega (arith, text_length))

    pub all_written : parts < length out / 16 → (after : List ℕ) (end : ℕ) → Puts out 0 (text_of b) after end
        → Left b out (Ok end) after
    unfolding recorded_of buffer_of
    all_written room after end p = leaves_all (text_of b) out (omega (arith, text_length)) after end p
