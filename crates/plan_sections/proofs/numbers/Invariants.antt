-- The loop over the numbers: the whole answer is the answer of what is left.
use mathlib.Core.Path.{◌≡◌}
use Prim.Native.Nat.{◌-◌, ◌≤◌}
use lib.ListN.{length, replicate}
use Rattle.plan.specs.Fields.{found, numbers_then}
use Rattle.plan_sections.proofs.numbers.Given as goal

abbrev pub invariant-loop-i : goal.invariant-loop-i
invariant-loop-i g l = (l.i ≤ l.count) × (l.count ≤ g.row.N) × (length l.values ≡ g.row.N)
    × (numbers_then l.low l.below l.wrong l.bytes (λ next values. found values next) l.count l.at 0 (replicate g.row.N 0)
    ≡ numbers_then l.low l.below l.wrong l.bytes (λ next values. found values next) (l.count - l.i) l.off l.i l.values)
