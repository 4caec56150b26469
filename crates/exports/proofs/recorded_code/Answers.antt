use Rattle.std.specs.Prelude.{Err}
use mathlib.Core.Path.{◌≡◌, refl}
use Rattle.drive.specs.declared.NotRecorded.{NotRecorded}
use Rattle.exports.specs.Codes.{recorded_code}
use Rattle.exports.proofs.recorded_code.Goals as goal

short : (w : NotRecorded) → 154_618_822_656 ≡ recorded_code (Err w)
unfolding recorded_code
short NotRecorded.TooShort = refl

pub returns-in-Ok : goal.returns-in-Ok
unfolding recorded_code
returns-in-Ok c = rw c.in-Ok.is

pub returns-in-Err-TooShort : goal.returns-in-Err-TooShort
returns-in-Err-TooShort c = rw c.in-Err-TooShort.is (short _)
