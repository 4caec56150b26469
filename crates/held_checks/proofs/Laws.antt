-- What is proved of the definitions.
pub mod Limits
pub mod Checks
