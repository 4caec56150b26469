-- One turn of each search at an opening: for an availability above 10^15, for an action or event that is too short, and for
-- the lowest activity that has one.
use Rattle.std.specs.Prelude.{Some, None}
use mathlib.Core.Path.{◌≡◌, ap, ◌∙◌}
use mathlib.Core.Bool.{true, false}
use mathlib.Core.List.{List}
use Prim.Native.Nat.{ℕ, suc, ◌+◌, ◌-◌, ◌<◌, ◌≤◌}
use native.Mathlib.Omega.{arith}
use lib.ListN.{get_or}
use Rattle.basis.specs.Parts.{part}
use Rattle.plan.specs.Plan.{past_node, activity_of}
use Rattle.plan.specs.declared.Node.{Node}
use Rattle.plan.specs.declared.Plan.{Plan}
use Rattle.run_opening.specs.Short.{is_short, any_short, short_from}

-- node n of an activity of `size` nodes, the first of which is node `first` of all
module _ (slack first size n : ℕ) (ns : List Node) where
  pub short_here : n < size → is_short slack (get_or ns (first + n) past_node) ≡ true → any_short slack (part past_node ns (first + n) (size - n)) ≡ true
  unfolding any_short
  short_here l h = let e : size - n ≡ suc (size - (n + 1)) = omega arith in rw (e, h)

  pub short_past : n < size → is_short slack (get_or ns (first + n) past_node) ≡ false
      → any_short slack (part past_node ns (first + n) (size - n)) ≡ any_short slack (part past_node ns (first + (n + 1)) (size - (n + 1)))
  unfolding any_short
  short_past l h =
      let e : size - n ≡ suc (size - (n + 1)) = omega arith in
      let z : first + n + 1 ≡ first + (n + 1) = omega arith in
      rw (e, h) (ap (λ (k : ℕ). any_short slack (part past_node ns k (size - (n + 1)))) z)

  pub short_none : size ≤ n → any_short slack (part past_node ns (first + n) (size - n)) ≡ false
  unfolding any_short
  short_none l = let e : size - n ≡ 0 = omega arith in rw e

pub short_starts : (slack first size : ℕ) (ns : List Node) → any_short slack (part past_node ns first size) ≡ any_short slack (part past_node ns (first + 0) (size - 0))
short_starts slack first size ns =
    let e : size ≡ size - 0 = omega arith in
    let z : first ≡ first + 0 = omega arith in
    ap (λ (k : ℕ). any_short slack (part past_node ns first k)) e ∙ ap (λ (k : ℕ). any_short slack (part past_node ns k (size - 0))) z

-- activity a of `end` activities
module _ (p : Plan) (slack end a : ℕ) where
  pub low_here : a < end → any_short slack (activity_of p a) ≡ true → short_from p slack a (end - a) ≡ Some a
  unfolding short_from
  low_here l h = let e : end - a ≡ suc (end - (a + 1)) = omega arith in rw (e, h)

  pub low_past : a < end → any_short slack (activity_of p a) ≡ false → short_from p slack a (end - a) ≡ short_from p slack (a + 1) (end - (a + 1))
  unfolding short_from
  low_past l h = let e : end - a ≡ suc (end - (a + 1)) = omega arith in rw (e, h)

  pub low_none : end ≤ a → short_from p slack a (end - a) ≡ None
  unfolding short_from
  low_none l = let e : end - a ≡ 0 = omega arith in rw e

pub low_starts : (p : Plan) (slack count : ℕ) → short_from p slack 0 count ≡ short_from p slack 0 (count - 0)
low_starts p slack count = let e : count - 0 ≡ count = omega arith in rw e
