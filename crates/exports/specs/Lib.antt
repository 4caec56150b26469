pub mod Codes
pub mod Lengths
pub mod Messages
