-- What is proved of the definitions.
pub mod Back
pub mod Upto
