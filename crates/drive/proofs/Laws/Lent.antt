-- A text in a lent buffer: refused, or put at the front.
use Rattle.std.specs.Prelude.{◌≡◌, List, [], ℕ, ◌≤◌, ◌<◌, length, Result, Ok, Err}
use Rattle.std.proofs.Common.{arith, le-leb}
use Rattle.std.proofs.lemmas.Bool.{lt-leb}
use Rattle.wire.specs.Puts.{Puts, left_by}
use Rattle.wire.proofs.Laws.Puts.{left_short, left_all}
use Rattle.drive.specs.declared.NotRecorded.{NotRecorded}
use Rattle.drive.specs.Drive.{recorded_by}

abbrev pub Leaves : List ℕ → List ℕ → Result ℕ NotRecorded → List ℕ → Type 0
Leaves text out r after = (r ≡ recorded_by text out) × (after ≡ left_by text out)

pub leaves_none : (out : List ℕ) → Leaves [] out (Ok 0) out
leaves_none out = let l = le-leb 0 (length out) (omega arith) in (rw l, rw l)

module _ (text out : List ℕ) where
  pub leaves_short : length out < length text → Leaves text out (Err NotRecorded.TooShort) out
  leaves_short h = (rw (lt-leb (length text) (length out) h), left_short text out h)

  pub leaves_all : length text ≤ length out → (after : List ℕ) (end : ℕ) → Puts out 0 text after end → Leaves text out (Ok end) after
  leaves_all fits after end p =
      let past : end ≡ length text = omega (arith, p.past) in
      (rw (le-leb (length text) (length out) fits, past), left_all text out fits p)
