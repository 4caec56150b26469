-- Laws about the definitions: what the functions' proofs and the crates above rest on.
pub mod Loops
pub mod Rounds
pub mod Turns
pub mod Taken
pub mod Leaves
pub mod Fits
pub mod Places
pub mod Kept
pub mod Example
