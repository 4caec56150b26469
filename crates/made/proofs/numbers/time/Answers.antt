-- A time is a number of eight bytes.
use mathlib.Core.Path.{ap}
use Prim.Native.Nat.{ℕ}
use Rattle.made.proofs.numbers.time.Goals as goal

pub returns : goal.returns
returns c = ap (λ (n : ℕ). record { 0 = n }) c.eight.ensures
