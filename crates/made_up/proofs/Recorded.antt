-- The two records in the buffer, or a buffer too short.
use mathlib.Core.Path.{◌≡◌, ◌∙◌}
use mathlib.Core.List.{List, ◌++◌}
use Prim.Native.Nat.{ℕ, ◌≤◌, ◌<◌}
use native.Mathlib.Nat.{zero-add}
use native.Mathlib.Omega.{arith}
use borrow.Author.Tests.{le-leb, lt-leb}
use lib.ListN.{length, length-append}
use lib.Seq.{sets-eq}
use Rattle.wire.specs.Puts.{Puts}
use Rattle.wire.proofs.Laws.Puts.{puts_join}
use Rattle.run.specs.declared.Run.{Run}
use Rattle.run.specs.declared.Call.{Call}
use Rattle.run.specs.declared.Answer.{Answer}
use Rattle.run.specs.Calls.{call_of}
use Rattle.drive_records.specs.declared.Record.{Record}
use Rattle.drive_records.specs.Records.{record_bytes, reply_record}
use Rattle.drive_records.proofs.Laws.Records.{record_length}
use Rattle.made_up.specs.Made.{made_of, call_at, first_from, second_from}
use Rattle.made_up.specs.Answers.{made_records, made_code, made_buffer}

module _ (b out : List ℕ) where
  pub too_short : length out < 32 → (154618822656 ≡ made_code out) × (out ≡ made_buffer b out)
  unfolding made_code made_buffer
  too_short h = let l = lt-leb 32 (length out) h in (rw l, rw l)

  module _ (room : 32 ≤ length out) where
    written : (xs : List ℕ) → made_records b ≡ xs → length xs ≡ 32 → (after : List ℕ) (end : ℕ) → Puts out 0 xs after end
        → (end ≡ made_code out) × (after ≡ made_buffer b out)
    unfolding made_code made_buffer
    written xs e n after end p =
        let l = le-leb 32 (length out) room in (
          rw l (omega (arith, p.past)),
          rw (l, e) (p.left ∙ sets-eq xs out 0 (omega arith) ∙ rw (zero-add, n)),
        )

    module _ (run : Run) (run_is : run ≡ made_of b) (c d : Call) (c-is : c ≡ call_at b first_from) (d-is : d ≡ call_at b second_from)
        (first second : Answer) (first-is : first ≡ call_of run c) (second_is : second ≡ call_of first.run d)
        (r s : Record) (r-is : r ≡ reply_record first.reply) (s-is : s ≡ reply_record second.reply) where
      records_are : made_records b ≡ record_bytes r ++ record_bytes s
      unfolding made_records
      records_are = rw (r-is, s-is, second_is, first-is, run_is, c-is, d-is)

      pub both-written : {mid after : List ℕ} {at end : ℕ} → Puts out 0 (record_bytes r) mid at → Puts mid at (record_bytes s) after end
          → (end ≡ made_code out) × (after ≡ made_buffer b out)
      both-written {mid} {after} {at} {end} p q =
          written (record_bytes r ++ record_bytes s) records_are
          (length-append (record_bytes r) (record_bytes s) ∙ rw (record_length r, record_length s)) after end (puts_join p q)
