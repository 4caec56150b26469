-- The automaton of a plan within its limits awaits only events that have a queue, and the way on is one of its transitions.
use Rattle.std.proofs.Common.{arith}
use Rattle.plan.specs.Limits.{InLimits}
use Rattle.plan.specs.declared.Plan.{Plan}
use Rattle.automaton.proofs.Laws.Following.{awaited_below}
use Rattle.run_outcomes.specs.Way.{Awaits}

pub plan_awaits : (p : Plan) → InLimits p → Awaits p.automaton
plan_awaits p limits = record { few = limits.transitions; queued = λ s e q. let u = awaited_below p limits s e q in let v = limits.events in omega arith }
