-- What is proved of the definitions.
pub mod Activities
pub mod Bits
pub mod Closure
pub mod Copied
pub mod Nodes
pub mod Order
pub mod Example
pub mod Tells
pub mod TestsRight
pub mod Theorem
