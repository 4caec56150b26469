-- `number_of` meets its contract, fault by fault. Assumes nothing.
use Rattle.plan.proofs.numbers.number_of.Goals as goal

pub returns-in-Ends : goal.returns-in-Ends
returns-in-Ends c = rw c.in-Ends.is

pub returns-in-Map : goal.returns-in-Map
returns-in-Map c = rw c.in-Map.is

pub returns-in-NoAutomaton : goal.returns-in-NoAutomaton
returns-in-NoAutomaton c = rw c.in-NoAutomaton.is

pub returns-in-Count : goal.returns-in-Count
returns-in-Count c = rw c.in-Count.is

pub returns-in-Names : goal.returns-in-Names
returns-in-Names c = rw c.in-Names.is

pub returns-in-Duration : goal.returns-in-Duration
returns-in-Duration c = rw c.in-Duration.is

pub returns-in-NotRising : goal.returns-in-NotRising
returns-in-NotRising c = rw c.in-NotRising.is

pub returns-in-LeftOver : goal.returns-in-LeftOver
returns-in-LeftOver c = rw c.in-LeftOver.is

pub returns-in-Cycle : goal.returns-in-Cycle
returns-in-Cycle c = rw c.in-Cycle.is

pub returns-in-ActionsUnordered : goal.returns-in-ActionsUnordered
returns-in-ActionsUnordered c = rw c.in-ActionsUnordered.is

pub returns-in-NamedTwice : goal.returns-in-NamedTwice
returns-in-NamedTwice c = rw c.in-NamedTwice.is

pub returns-in-ActionUnheld : goal.returns-in-ActionUnheld
returns-in-ActionUnheld c = rw c.in-ActionUnheld.is

pub returns-in-ClaimUnpaired : goal.returns-in-ClaimUnpaired
returns-in-ClaimUnpaired c = rw c.in-ClaimUnpaired.is

pub returns-in-ArrowPastEnd : goal.returns-in-ArrowPastEnd
returns-in-ArrowPastEnd c = rw c.in-ArrowPastEnd.is

pub returns-in-EventFirst : goal.returns-in-EventFirst
returns-in-EventFirst c = rw c.in-EventFirst.is

pub returns-in-EventsUnordered : goal.returns-in-EventsUnordered
returns-in-EventsUnordered c = rw c.in-EventsUnordered.is

pub returns-in-WayOutOfFinal : goal.returns-in-WayOutOfFinal
returns-in-WayOutOfFinal c = rw c.in-WayOutOfFinal.is

pub returns-in-ForbiddenBranch : goal.returns-in-ForbiddenBranch
returns-in-ForbiddenBranch c = rw c.in-ForbiddenBranch.is

pub returns-in-OutcomeMissing : goal.returns-in-OutcomeMissing
returns-in-OutcomeMissing c = rw c.in-OutcomeMissing.is

pub returns-in-NoWayToFinal : goal.returns-in-NoWayToFinal
returns-in-NoWayToFinal c = rw c.in-NoWayToFinal.is

pub returns-in-Unbalanced : goal.returns-in-Unbalanced
returns-in-Unbalanced c = rw c.in-Unbalanced.is

pub returns-in-TooManyPending : goal.returns-in-TooManyPending
returns-in-TooManyPending c = rw c.in-TooManyPending.is
