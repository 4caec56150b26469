-- Messages of the host link, as bytes.
pub mod Message
pub mod Writing
pub mod Inner
