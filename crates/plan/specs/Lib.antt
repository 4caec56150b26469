-- The plan: its parts as lists, its limits, reading it from bytes, and the number of each refusal.
pub mod Plan
pub mod Limits
pub mod Fault
pub mod Verdict
pub mod Fields
pub mod Nodes
pub mod Sections
pub mod Moves
pub mod Reading
