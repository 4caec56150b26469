-- The value of a map as the sum of its bits.
use Rattle.std.specs.Prelude.{◌≡◌, refl, Bool, true, false, List, [], ◌∷◌, ◌++◌, ◌+◌, ◌*◌}
use Rattle.std.proofs.Common.{arith}
use Rattle.wire.specs.Map.{map_of}
use Rattle.plan.specs.declared.Kind.{Kind}
use Rattle.plan_file.specs.PlanFile.{kind_bits}
use Rattle.plan_write.specs.Inner.Bits.{digit, kind_bit}

pub map-cons : (t : Bool) (bits : List Bool) → map_of (t ∷ bits) ≡ digit t + 2 * map_of bits
map-cons true bits = refl
map-cons false bits = omega arith

pub node_sum : (k : Kind) (t u : Bool) → map_of (kind_bits k ++ (t ∷ u ∷ [])) ≡ kind_bit k + (16 * digit t + 32 * digit u)
node_sum (Kind.Action a x) t u = omega (arith, map-cons t (u ∷ []), map-cons u [])
node_sum (Kind.Claim r) t u = omega (arith, map-cons t (u ∷ []), map-cons u [])
node_sum (Kind.Release r) t u = omega (arith, map-cons t (u ∷ []), map-cons u [])
node_sum (Kind.Event e) t u = omega (arith, map-cons t (u ∷ []), map-cons u [])

pub move_sum : (t u : Bool) → map_of (t ∷ u ∷ []) ≡ digit t + 2 * digit u
move_sum t u = omega (arith, map-cons t (u ∷ []), map-cons u [])

pub section_sum : (t u v w : Bool) → map_of (t ∷ u ∷ v ∷ w ∷ true ∷ []) ≡ digit t + (2 * digit u + (4 * digit v + (8 * digit w + 16)))
section_sum t u v w =
    omega (
      arith,
      map-cons t (u ∷ v ∷ w ∷ true ∷ []),
      map-cons u (v ∷ w ∷ true ∷ []),
      map-cons v (w ∷ true ∷ []),
      map-cons w (true ∷ []),
    )
