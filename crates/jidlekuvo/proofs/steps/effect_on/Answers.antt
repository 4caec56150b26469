-- `effect_on` reads the kind of the node that the checks found where it looks at all nodes.
use native.Mathlib.Omega.{arith}
use Rattle.std.specs.Prelude.{◌≡◌, refl, Bool, true, false, Option, Some, None, cond}
use Rattle.std.specs.Bool.{then_some}
use mathlib.Core.Path.{◌∙◌, ap}
use mathlib.Core.List.{map}
use Prim.Native.Nat.{ℕ}
use lib.ListN.{get_or}
use Rattle.plan.specs.Plan.{past_node}
use Rattle.plan.specs.declared.Kind.{Kind}
use Rattle.held.specs.Held.{node_of, plan_of}
use Rattle.held_checks.specs.Inner.Limits.{nodes_good}
use Rattle.held_checks.specs.Inner.Checks.{effect_told}
use Rattle.jidlekuvo.proofs.steps.effect_on.Goals as goal

by_flag : (g : Bool) (k : Kind) → then_some g k ≡ cond g (Some k) None
by_flag true k = refl
by_flag false k = refl

pub nodes_in_limits-nodes-requires : goal.nodes_in_limits-nodes-requires
nodes_in_limits-nodes-requires c = omega (arith, c.place_of-k.ensures, c.requires)

pub returns : goal.returns
returns c =
    let a = c.args in
    let n = c.nodes_in_limits-nodes in
    c.effect.ensures
    ∙ ap (λ (k : Option Kind). effect_told a.c a.check k a.plan.outcomes)
    (c.then_some-kind.ensures
    ∙ by_flag n.result.good n.result.kind
    ∙ ap (λ (g : Bool). cond g (Some n.result.kind) None) n.ensures.0
    ∙ ap (λ (k : Kind). cond (nodes_good (plan_of a.plan)) (Some k) None) n.ensures.1
    ∙ ap (λ (j : ℕ). cond (nodes_good (plan_of a.plan)) (Some (get_or (map node_of a.plan.nodes) j past_node).kind) None) c.place_of-k.ensures)
