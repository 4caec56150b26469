-- `scheduled` meets its contract. The loops' invariant: all rounds are the rounds that are left, and the round at hand is its nodes that are
-- left; the schedule is sound, so that no sum overflows and the order has room. Assumes nothing.
use Prim.Native.Nat.{◌-◌}
use Rattle.times.specs.Inner.Times.{Rounding}
use Rattle.times.proofs.starts.scheduled.Given as goal

abbrev pub invariant-loop-n : goal.invariant-loop-n
invariant-loop-n l = Rounding l.a l.available l.latest (l.a.count - l.counter) l.from l.n l.u

abbrev pub invariant-loop : goal.invariant-loop
invariant-loop l = Rounding l.a l.available l.latest (l.a.count - l.counter) l.u.count 0 l.u
