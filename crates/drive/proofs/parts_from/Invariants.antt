-- The loop over the parts. Its invariant: what puts the records of the parts that are left puts all of them.
use mathlib.Core.Path.{◌≡◌}
use Prim.Native.Nat.{◌+◌, ◌*◌, ◌-◌, ◌≤◌}
use lib.ListN.{length}
use Rattle.drive.proofs.Turns.{driven_from, Leads}
use Rattle.drive.proofs.parts_from.Given as goal

abbrev pub invariant-loop : goal.invariant-loop
invariant-loop l = (l.at ≤ length l.input) × (l.end + 16 * (l.parts - l.counter) ≤ length l.out) × (length l.out ≡ length l.initial.out)
    × Leads l.initial.out l.written (driven_from l.parts l.initial.run l.input l.from) l.out l.end (driven_from (l.parts - l.counter) l.run l.input l.at)
