-- What is proved of the definitions.
pub mod Judge
pub mod Verdict
