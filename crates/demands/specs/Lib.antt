-- The demands, as statements about the definitions that the contracts cite; the theorems that carry them stand in proofs/Laws.
-- Demand 2
pub mod Accepted
pub mod Alike
pub mod Times
-- Demand 3
pub mod Demand3
-- Request (i): two runs of one plan
pub mod Stitching
-- Request (b): which node is served first
pub mod Served
-- Request (d): waiting states, and the report of a marker
pub mod Markers
-- Request (h): places of the window
pub mod Places
pub mod RepliesByContent
-- Request (a): messages of the host link
pub mod Messages
-- Demand 1, and the strength of the contracts
pub mod Demand1
-- Each answer of an opening, in its condition and in no other
pub mod Openings
-- The whole verdict on a file
pub mod Verdicts
pub mod AuthorNumbers
-- and of reading it, field by field
pub mod FirstFaults
-- Writing, and the way back
pub mod Writes
-- A run in limits (50)
pub mod InLimits
-- Each reply of a call, in its condition and in no other
pub mod Conditions
pub mod Numbers
-- and over the log
pub mod ByLog
pub mod AnswersByLog
-- One plan, printed
pub mod Timetables
pub mod Rows
-- K1 to K12
pub mod Inputs
pub mod Cases
-- The exported drive
pub mod DriveRecords
-- The exported functions of a host in C or Rust
pub mod Hosted
