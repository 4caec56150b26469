-- What loading asks, and what its inner functions answer.
use Rattle.std.specs.Prelude.{Bool, cond, ℕ, ltb, Option, Some, None}
use Rattle.plan.specs.Limits.{InLimits}
use Rattle.plan.specs.declared.Plan.{Plan}
use Rattle.automaton.specs.declared.Next.{Next}
use Rattle.times.specs.declared.Progress.{Progress}
use Rattle.run_path.specs.Pathed.{ProgressIn, Leads}
use Rattle.run_loading.specs.declared.Failure.{Failure}

-- the plan, and where the behaviour stands, within the limits (number 50)
pub record Loads (p : Plan) (g : Progress) : Type 0 where
  pub plan : InLimits p
  pub progress : ProgressIn p g

-- and the transition that is taken next, if there is one, is one of the plan's
pub record Loadable (p : Plan) (g : Progress) (next : Next) : Type 0 where
  pub loads : Loads p g
  pub leads : Leads p.automaton.count next

-- "44 ..; then 43 the window would pass 512", of a path with so many entries where so many places are free
unfoldable pub failure_by : Bool → ℕ → ℕ → Option Failure
failure_by beyond count free = cond beyond (Some Failure.Beyond) (cond (ltb free count) (Some Failure.Full) None)
