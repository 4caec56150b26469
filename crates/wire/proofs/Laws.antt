-- What is proved of the definitions.
pub mod Puts
pub mod Fields
pub mod Bytes
pub mod Options
pub mod Maps
pub mod Span
