-- A list of messages as bytes, and what answers it.
pub mod LinkDrive
pub mod Inner
