-- In any direction: what was read is written back, and what was written is read back.
use Rattle.std.specs.Prelude.{◌≡◌, refl, true, List, ℕ, ◌%◌, get_or}
use Rattle.std.proofs.Common.{sym, ◌∙◌, arith}
use Rattle.std.proofs.Math.Path.{ap}
use Rattle.basis.proofs.Laws.Bools.{and_left, and_right}
use Rattle.format.specs.Format.{Answer, on_answer, print, result}
use Rattle.format.specs.Writing.{Bytes}
use Rattle.format.proofs.Laws.Writing.{written_read}
use Rattle.link_messages.specs.declared.Message.{Message}
use Rattle.link_messages.specs.Message.{length_of, Direction, message, fault_order, has_length, read_by}
use Rattle.link_messages.specs.Writing.{Fits, permits}
use Rattle.link_messages.proofs.Laws.Known.{message_read}
use Rattle.link_messages.proofs.Laws.Lengths.{of_its_length, message_length}
use Rattle.link_messages.proofs.Laws.Permits.{holds_iff}
use Rattle.link_messages.proofs.Laws.Reading.{fields_at, accepted}

module _ (d : Direction) where
  -- "write what was read"
  pub written_back : (b : List ℕ) → Bytes b → has_length b ≡ true → permits d (get_or b 0 0) (fields_at (get_or b 0 0) b).number ≡ true
      → print (message d) (fields_at (get_or b 0 0) b) ≡ b
  written_back b bytes long good = ((message_read d b bytes (fields_at (get_or b 0 0) b)).0 (accepted d b long good)).written

  module _ (s : Message) (fits : Fits s) where
    -- the bytes of a message are as many as its map has
    written_length : has_length (print (message d) s) ≡ true
    unfolding print
    written_length =
        let m : s.map % 256 ≡ s.map = omega (arith, fits.map) in
        of_its_length (print (message d) s) (record { some = omega arith; all = message_length d s ∙ ap length_of (sym m) })

    -- "read what was written": its fields, 0 where they do not stand
    pub read_back : permits d s.map s.number ≡ true → {A : Type 0} (value : Message → A) (wrong : ℕ → A) → read_by d (print (message d) s) value wrong ≡ value (result (message d) s)
    unfolding read_by
    read_back good {A} value wrong =
        let h = (holds_iff d s fits).1 (and_left _ _ good, and_right (d.listed s.map) _ good) in
        rw written_length
        (ap (λ (r : Answer Message). on_answer r (λ (u : Message) (next : ℕ). value u) (λ (n place : ℕ). wrong n)) (written_read 62 fault_order (print (message d) s) 62 (message d) s h refl))
