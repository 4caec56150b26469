use mathlib.Core.Path.{refl}
use native.Mathlib.Omega.{arith}
use Rattle.activity.proofs.Laws.Bits.{zeros}
use Rattle.activity.proofs.before.arrows.Goals as goal

pub loop-n-init : goal.loop-n-init
loop-n-init c = (refl, λ j lt. absurd (omega arith), λ j le. zeros 64 j)
