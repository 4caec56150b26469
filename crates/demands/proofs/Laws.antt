-- The proofs of what the statements say.
-- Plans that differ in nothing but slots past a count
pub mod LikeActivity
pub mod LikeAutomaton
pub mod ReadAlike
pub mod Only
-- What is printed
pub mod Leaving
pub mod Along
pub mod Printed
-- Openings
pub mod OpeningTests
pub mod FirstPath
-- Calls of any run
pub mod FirstPlaces
pub mod ConditionsMet
pub mod ConditionsGive
pub mod ServedOrder
pub mod LoadingFails
-- and over the log
pub mod AfterCalls
pub mod ByLogPlaces
pub mod ByLogConditions
-- Two runs of one plan
pub mod NeverStopped
pub mod SameWord
-- Places of the window
pub mod PathOrder
pub mod LikeRuns
pub mod LowestPlaces
pub mod AuthorNumbers
pub mod DriveRecords
pub mod NumbersHold
pub mod AcceptedIff
pub mod AnswersByLogHold
pub mod CasesHold
pub mod ConditionsHold
pub mod Demand3Holds
pub mod FirstFaultsHold
pub mod InLimitsIff
pub mod InLimitsKept
pub mod MarkersHold
pub mod OpeningsHold
pub mod PlacesHold
pub mod Repeated
pub mod RepliesByContentHold
pub mod RowsHold
pub mod ServedHolds
pub mod StitchingHolds
pub mod TimesEqual
pub mod TimetablesHold
pub mod Unchanged
pub mod VerdictsHold
pub mod WritesHold
pub mod MessagesHold
pub mod MessagesDrive
pub mod MessagesGood
pub mod MessagesRefused
pub mod MessagesSent
pub mod HostedHolds
