-- The opened run keeps the plan that its bytes hold, Ψ and the slack; an answer makes its reading the last one.
use Rattle.std.specs.Prelude.{◌≡◌, ℕ}
use Rattle.time.specs.declared.Clock.{Clock}
use Rattle.plan.specs.declared.Plan.{Plan}
use Rattle.run.specs.declared.Run.{Run}

pub record Keeps (p : Plan) (psi : Clock) (slack : ℕ) (run : Run) : Type 0 where
  pub same_plan : run.plan ≡ p
  pub same_psi : run.psi ≡ psi
  pub same_slack : run.slack ≡ slack
