-- A plan is within its limits exactly where both parts of it are.
use Rattle.std.specs.Prelude.{◌≡◌, refl, Bool, true, false, ◌&&◌, leb}
use Rattle.plan.specs.declared.Plan.{Plan}
use Rattle.plan_limits.specs.Limits.{within, nodes_in_limits, automaton_in_limits, parts_in_limits, in_limits}
use Rattle.held_checks.specs.Inner.Limits.{counted_in_limits, numbers_in_limits, nodes_good}

swapped : (r x e a b o s n m : Bool) → r && (x && (e && (a && (b && (o && (s && (n && m))))))) ≡ (r && (x && (e && (a && (b && (o && (s && m))))))) && (a && n)
swapped false x e a b o s n m = refl
swapped true false e a b o s n m = refl
swapped true true false a b o s n m = refl
swapped true true true false b o s n m = refl
swapped true true true true false o s n m = refl
swapped true true true true true false s n m = refl
swapped true true true true true true false n m = refl
swapped true true true true true true true false true = refl
swapped true true true true true true true false false = refl
swapped true true true true true true true true true = refl
swapped true true true true true true true true false = refl

pub both_parts : (p : Plan) → in_limits p ≡ numbers_in_limits p && nodes_good p
unfolding in_limits parts_in_limits counted_in_limits numbers_in_limits nodes_good
both_parts p =
    swapped (leb p.resources 16) (leb p.peripherals 64) (leb p.events 16) (leb p.activities 32)
    (within 0 p.resources p.peripherals p.belongs) (within 1 9 p.events p.outcomes) (within 1 65 p.activities p.sizes)
    (nodes_in_limits p.resources p.peripherals p.events p.activities p.sizes p.nodes)
    (automaton_in_limits p.activities p.events p.outcomes p.automaton)
