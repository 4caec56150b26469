-- What the contracts behind `Laws/Table` cite.
use Rattle.std.specs.Prelude.{◌≡◌, List, ℕ, ◌+◌, ◌*◌, ◌<◌}
use Rattle.plan.specs.declared.Plan.{Plan}
use Rattle.plan.specs.Plan.{activity_of, events_in}
use Rattle.automaton.specs.Tests.{at}
use Rattle.automaton_counts.specs.Inner.Emits.{Few}

-- at 16 * k + e stands how many nodes of event e activity k has
pub record Table (p : Plan) (em : List ℕ) : Type 0 where
  pub counts : (k e : ℕ) → k < p.activities → e < 16 → at em (16 * k + e) ≡ events_in e (activity_of p k)
  pub few : Few em
