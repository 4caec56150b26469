-- `raised` meets its contract. The loop's invariant: all raised is those raised that are left. Assumes nothing.
use mathlib.Core.Path.{◌≡◌}
use Prim.Native.Nat.{◌-◌}
use Rattle.times.specs.Engine.{raised_of}
use Rattle.times.proofs.engine.raised.Given as goal

abbrev pub invariant-loop-i : goal.invariant-loop-i
invariant-loop-i l = raised_of l.c.0 0 l.count l.initial.available ≡ raised_of l.c.0 l.i (l.count - l.i) l.available
