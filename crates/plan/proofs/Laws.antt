-- What is proved of the definitions.
pub mod Faults
pub mod Example
