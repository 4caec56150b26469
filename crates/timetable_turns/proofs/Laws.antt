-- Laws about the turns of the table.
pub mod ByTurns
pub mod InLimits
pub mod Short
pub mod Hearing
pub mod Stepping
-- and about the text of a whole input
pub mod Whole
