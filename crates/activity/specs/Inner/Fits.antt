-- What the code asks of an activity's numbers: at most 64 nodes, of at most 8 predecessors each, which are below 64.
-- Every activity of a plan in its limits is so.
use Rattle.std.specs.Prelude.{List, ℕ, ◌<◌, ◌≤◌, length, get_or}
use Rattle.basis.specs.Lists.{Among}
use Rattle.plan.specs.Plan.{past_node, predecessors}
use Rattle.plan.specs.declared.Node.{Node}
use Rattle.plan.specs.declared.Activity.{Activity}

-- "count 1 to 8, then node numbers"
pub record NodeFits (n : Node) : Type 0 where
  pub few : n.count ≤ 8
  pub arrows : (m : ℕ) → Among m (predecessors n) → m < 64

-- at most 64 nodes that fit
pub record NodesFit (l : List Node) : Type 0 where
  pub few : length l ≤ 64
  pub each : (n : ℕ) → n < length l → NodeFits (get_or l n past_node)

-- "each has a node count, 1 to 64, and its nodes"
pub record Fits (a : Activity) : Type 0 where
  pub small : a.count ≤ 64
  pub nodes : (n : ℕ) → n < a.count → NodeFits (get_or a.nodes n past_node)
