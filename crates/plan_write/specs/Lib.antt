-- Writing a plan into a lent buffer: what is answered, the bytes of each part, and the way back.
pub mod Writing
pub mod Inner
