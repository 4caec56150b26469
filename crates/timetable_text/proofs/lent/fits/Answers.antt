-- Whether bytes fit from an offset on: by the two tests.
use Prim.Native.Nat.{◌+◌, ◌-◌}
use native.Mathlib.Decide.{dec_le}
use native.Mathlib.Omega.{arith}
use borrow.Author.Tests.{le-leb, lt-leb}
use mathlib.Core.Path.{sym, ◌∙◌}
use Rattle.timetable_text.proofs.lent.fits.Goals as goal

pub returns-then-at-room : goal.returns-then-at-room
returns-then-at-room c = let a = c.args in
    elim (dec_le (a.at + a.n) a.room) [
      | yes h ↦ le-leb a.n (a.room - a.at) (omega arith) ∙ sym (le-leb (a.at + a.n) a.room h)
      | no h ↦ lt-leb a.n (a.room - a.at) (omega arith) ∙ sym (lt-leb (a.at + a.n) a.room (omega arith))
    ]

pub returns : goal.returns
returns c = let a = c.args in sym (lt-leb (a.at + a.n) a.room (omega arith))
