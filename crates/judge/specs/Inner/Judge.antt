-- The verdict on a plan that was read, without the plan. Inner: `judge_plan` says the same with it.
use Rattle.plan.specs.declared.Plan.{Plan}
use Rattle.plan.specs.Verdict.{Verdict, faulty}
use Rattle.activity.specs.Number.{activities_verdict}
use Rattle.automaton.specs.Number.{automaton_verdict}
use Rattle.judge.specs.Judge.{on_verdict}

abbrev pub plan_verdict : Plan → Verdict
plan_verdict p = on_verdict (activities_verdict p) (automaton_verdict p) faulty
