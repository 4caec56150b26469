-- Each answer of the writer, and the buffer that goes with it.
use Rattle.std.specs.Prelude.{Result, Ok, Err}
use mathlib.Core.Path.{◌≡◌}
use mathlib.Core.Bool.{Bool, true, false}
use mathlib.Core.List.{List}
use Prim.Native.Nat.{ℕ, ◌≤◌, ◌<◌}
use native.Mathlib.Omega.{arith}
use lib.ListN.{length}
use borrow.Author.Tests.{le-leb, lt-leb}
use Rattle.wire.specs.Puts.{Puts}
use Rattle.wire.proofs.Laws.Puts.{left_short, left_all}
use Rattle.link_messages.specs.declared.NotSent.{NotSent}
use Rattle.link_messages.specs.Writing.{sent_by, buffer_by}

module _ (bytes : List ℕ) (good : Bool) (out : List ℕ) where
  abbrev Left : Result ℕ NotSent → List ℕ → Type 0
  Left r after = (r ≡ sent_by good bytes out) × (after ≡ buffer_by good bytes out)

  pub unlisted : good ≡ false → Left (Err NotSent.Unlisted) out
  unlisted e = (rw e, rw e)

  module _ (ok : good ≡ true) (size : ℕ) (is : size ≡ length bytes) where
    pub too_short : length out < size → Left (Err NotSent.TooShort) out
    too_short h =
        let short : length out < length bytes = omega arith in
        (rw (ok, lt-leb (length bytes) (length out) short), rw ok (left_short bytes out short))

    pub wrote : size ≤ length out → (after : List ℕ) (end : ℕ) → Puts out 0 bytes after end → Left (Ok end) after
    wrote h after end p =
        let fits : length bytes ≤ length out = omega arith in
        let past : end ≡ length bytes = omega (arith, p.past) in
        (rw (ok, le-leb (length bytes) (length out) fits, past), rw ok (left_all bytes out fits p))
