-- What the contracts behind `Laws/Copied` cite.
use Rattle.std.specs.Prelude.{List, ◌++◌, ℕ, ◌-◌, ◌*◌, replicate}
use Rattle.basis.specs.Parts.{part}
use Rattle.plan.specs.Plan.{past_node, size_of}
use Rattle.plan.specs.declared.Node.{Node}
use Rattle.plan.specs.declared.Activity.{Activity}
use Rattle.plan.specs.Nodes.{zero_node}
use Rattle.plan.specs.declared.Plan.{Plan}

-- the first n nodes of activity a, and zeros
abbrev pub filled : Plan → ℕ → ℕ → List Node
filled p a n = part past_node p.nodes (64 * a) n ++ replicate (64 - n) zero_node

-- activity a, copied out of the plan
unfoldable pub copied : Plan → ℕ → Activity
copied p a = record { count = size_of p a; nodes = filled p a (size_of p a) }
