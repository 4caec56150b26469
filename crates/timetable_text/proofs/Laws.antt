-- What is proved of the definitions.
pub mod Digits
pub mod Lent
