-- Laws about the definitions: what the functions' proofs and the crates above rest on.
pub mod Collecting
pub mod Emitting
pub mod Stepping
pub mod Storing
pub mod InTime
