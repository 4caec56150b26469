-- What is proved of the definitions.
pub mod Accepted
pub mod Basis
pub mod Bits
pub mod Cases
pub mod HoldsNode
pub mod HoldsPlan
pub mod Known
pub mod KnownPlan
pub mod Link
pub mod LinkMoves
pub mod LinkNode
pub mod LinkPlan
pub mod Longest
pub mod Reads
pub mod Refused
pub mod Stages
