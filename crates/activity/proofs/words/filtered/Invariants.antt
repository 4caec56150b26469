-- `words::filtered` meets its contract. The loop's invariant: what it says of the numbers below m. Assumes nothing.
use Rattle.std.proofs.Common.{true, false, ◌⊎◌, ℕ, ◌<◌}
use Rattle.activity.specs.Inner.Bits.{Bit}
use Rattle.activity.proofs.words.filtered.Given as goal

abbrev pub invariant-loop-m : goal.invariant-loop-m
invariant-loop-m g l = (j : ℕ) → (Bit l.w j → (j < l.m) × goal.P-post g l.passes j true) × (j < l.m → Bit l.w j ⊎ goal.P-post g l.passes j false)
