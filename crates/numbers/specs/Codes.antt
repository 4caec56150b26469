-- A verdict as one number.
use Rattle.std.specs.Prelude.{ℕ, ◌+◌, ◌*◌, min, Ok, Err}
use Rattle.plan.specs.Fault.{number_of}
use Rattle.plan.specs.Verdict.{Verdict}

-- 0 for an accepted plan; otherwise its number times 2^32 plus its place, or plus 2^32 - 1 where the place is larger
unfoldable pub code_of : Verdict → ℕ
code_of (Ok u) = 0
code_of (Err e) = number_of e.fault * 4_294_967_296 + min e.place 4_294_967_295
