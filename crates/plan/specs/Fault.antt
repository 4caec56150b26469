-- "Who can cause which number", the plan's author: the number of each refusal.
use Rattle.std.specs.Prelude.{ℕ}
use Rattle.plan.specs.declared.Fault.{Fault}

abbrev pub number_of : Fault → ℕ
number_of Fault.Ends = 1
number_of Fault.Map = 2
number_of Fault.NoAutomaton = 7
number_of Fault.Count = 3
number_of Fault.Names = 4
number_of Fault.Duration = 8
number_of Fault.NotRising = 5
number_of Fault.LeftOver = 6
number_of Fault.Cycle = 11
number_of Fault.ActionsUnordered = 12
number_of Fault.NamedTwice = 13
number_of Fault.ActionUnheld = 14
number_of Fault.ClaimUnpaired = 15
number_of Fault.ArrowPastEnd = 16
number_of Fault.EventFirst = 17
number_of Fault.EventsUnordered = 18
number_of Fault.WayOutOfFinal = 21
number_of Fault.ForbiddenBranch = 22
number_of Fault.OutcomeMissing = 23
number_of Fault.NoWayToFinal = 24
number_of Fault.Unbalanced = 25
number_of Fault.TooManyPending = 26
