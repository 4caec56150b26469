-- What is proved of the definitions.
pub mod Replies
pub mod Kinds
pub mod Host
