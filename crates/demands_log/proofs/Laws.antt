-- What is proved of the definitions.
pub mod Kept
pub mod ByCases
pub mod Latest
pub mod PlanStays
