-- `author_numbers`: each number that the plan's author can cause, as a number, in its condition and in no other.
use Rattle.std.specs.Prelude.{◌↔◌, List, ℕ}
use Rattle.plan.specs.declared.Fault.{Fault}
use Rattle.plan.specs.Verdict.{faulty}
use Rattle.demands.specs.Accepted.{Bytes}
use Rattle.demands.specs.Verdicts.{Judged, RefusedAs}

-- the number and the place of a refused file
pub data RefusedFor (b : List ℕ) (place : ℕ) : ℕ → Type 0 where
  number1 : Judged b (faulty Fault.Ends place) → RefusedFor b place 1
  number2 : Judged b (faulty Fault.Map place) → RefusedFor b place 2
  number3 : Judged b (faulty Fault.Count place) → RefusedFor b place 3
  number4 : Judged b (faulty Fault.Names place) → RefusedFor b place 4
  number5 : Judged b (faulty Fault.NotRising place) → RefusedFor b place 5
  number6 : Judged b (faulty Fault.LeftOver place) → RefusedFor b place 6
  number7 : Judged b (faulty Fault.NoAutomaton place) → RefusedFor b place 7
  number8 : Judged b (faulty Fault.Duration place) → RefusedFor b place 8
  number11 : Judged b (faulty Fault.Cycle place) → RefusedFor b place 11
  number12 : Judged b (faulty Fault.ActionsUnordered place) → RefusedFor b place 12
  number13 : Judged b (faulty Fault.NamedTwice place) → RefusedFor b place 13
  number14 : Judged b (faulty Fault.ActionUnheld place) → RefusedFor b place 14
  number15 : Judged b (faulty Fault.ClaimUnpaired place) → RefusedFor b place 15
  number16 : Judged b (faulty Fault.ArrowPastEnd place) → RefusedFor b place 16
  number17 : Judged b (faulty Fault.EventFirst place) → RefusedFor b place 17
  number18 : Judged b (faulty Fault.EventsUnordered place) → RefusedFor b place 18
  number21 : Judged b (faulty Fault.WayOutOfFinal place) → RefusedFor b place 21
  number22 : Judged b (faulty Fault.ForbiddenBranch place) → RefusedFor b place 22
  number23 : Judged b (faulty Fault.OutcomeMissing place) → RefusedFor b place 23
  number24 : Judged b (faulty Fault.NoWayToFinal place) → RefusedFor b place 24
  number25 : Judged b (faulty Fault.Unbalanced place) → RefusedFor b place 25
  number26 : Judged b (faulty Fault.TooManyPending place) → RefusedFor b place 26

abbrev pub StatementAuthorNumbers : Type 0
StatementAuthorNumbers = (b : List ℕ) (n place : ℕ) → Bytes b → RefusedAs b n place ↔ RefusedFor b place n
