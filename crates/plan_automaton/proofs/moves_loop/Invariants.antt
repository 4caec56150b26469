-- The loop over the transitions: the whole answer is the answer of what is left.
use mathlib.Core.Path.{◌≡◌}
use Prim.Native.Nat.{◌-◌, ◌≤◌}
use lib.ListN.{length, replicate}
use Rattle.plan.specs.Moves.{moves_loop}
use Rattle.plan.specs.Plan.{past_move}
use Rattle.plan_automaton.proofs.moves_loop.Given as goal

abbrev pub invariant-loop-i : goal.invariant-loop-i
invariant-loop-i l = (l.i ≤ l.count) × (l.count ≤ 256) × (l.events.count ≤ 16) × (length l.moves ≡ 256)
    × (moves_loop l.events.count l.events.outcomes l.activities l.bytes l.states l.initial' l.finals l.count l.count l.at 0 (replicate 256 past_move)
    ≡ moves_loop l.events.count l.events.outcomes l.activities l.bytes l.states l.initial' l.finals l.count (l.count - l.i) l.off l.i l.moves)
