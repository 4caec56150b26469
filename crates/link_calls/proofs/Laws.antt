-- What is proved of the definitions.
pub mod Reads
pub mod Listed
pub mod Same
pub mod Lengths
