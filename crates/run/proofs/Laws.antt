-- What is proved of the definitions.
pub mod Checking
pub mod Acting
pub mod Loaded
