-- The verdict on a plan file: reading, "Then activities in order .. Then the automaton".
use Rattle.std.specs.Prelude.{List, ℕ, Result, Ok, Err}
use Rattle.plan.specs.declared.Plan.{Plan}
use Rattle.plan.specs.declared.Fault.{Fault}
use Rattle.plan.specs.declared.FaultAt.{FaultAt}
use Rattle.plan.specs.Verdict.{Verdict, faulty}
use Rattle.plan.specs.declared.PlanRead.{PlanRead}
use Rattle.plan.specs.Reading.{read_plan, zero_plan}
use Rattle.activity.specs.Number.{activities_verdict}
use Rattle.automaton.specs.Number.{automaton_verdict}

-- what follows a verdict: the next check of an accepted plan, or the fault and its place
abbrev pub on_verdict : {A : Type 0} → Verdict → A → (Fault → ℕ → A) → A
on_verdict (Ok u) x f = x
on_verdict (Err e) x f = f e.fault e.place

-- what follows reading: the next check of the plan that was read, or the fault and its place
abbrev pub on_read : {A : Type 0} → Result Plan FaultAt → (Plan → A) → (Fault → ℕ → A) → A
on_read (Ok p) read f = read p
on_read (Err e) read f = f e.fault e.place

-- a refused plan is not handed on
abbrev pub refused_plan : Fault → ℕ → PlanRead
refused_plan f place = record { verdict = faulty f place; plan = zero_plan }

abbrev pub accepted : Plan → PlanRead
accepted p = record { verdict = Ok tt; plan = p }

-- "Then the automaton"
abbrev pub judge_automaton : Plan → PlanRead
judge_automaton p = on_verdict (automaton_verdict p) (accepted p) refused_plan

-- "Then activities in order"
abbrev pub judge_plan : Plan → PlanRead
judge_plan p = on_verdict (activities_verdict p) (judge_automaton p) refused_plan

unfoldable pub judge_of : List ℕ → PlanRead
judge_of bytes = on_read (read_plan bytes) judge_plan refused_plan
