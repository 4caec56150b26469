-- "Then activities in order, place = activity": an activity of a plan that meets the rules, and the first that does not.
use Rattle.std.specs.Prelude.{ℕ, ◌<◌}
use Rattle.plan.specs.Plan.{resource_of, activity_of}
use Rattle.plan.specs.declared.Fault.{Fault}
use Rattle.plan.specs.declared.Plan.{Plan}
use Rattle.activity.specs.Rules.{Meets}
use Rattle.activity.specs.Judged.{First}

-- activity i of the plan meets all rules
abbrev pub MeetsAt : Plan → ℕ → Type 0
MeetsAt p i = Meets (resource_of p) (activity_of p i)

-- activity i is the first at fault, and f its fault
pub record FirstAt (p : Plan) (f : Fault) (i : ℕ) : Type 0 where
  pub within : i < p.activities
  pub fault : First (resource_of p) (activity_of p i) f
  pub before : (j : ℕ) → j < i → MeetsAt p j
