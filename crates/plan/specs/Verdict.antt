-- The verdict on a plan: it is accepted, or the first fault and its place.
use Rattle.std.specs.Prelude.{Result}
use Rattle.plan.specs.declared.FaultAt.{FaultAt}
pub use Rattle.plan.specs.Fields.{faulty}

abbrev pub Verdict : Type 0
Verdict = Result (Unit {0}) FaultAt
