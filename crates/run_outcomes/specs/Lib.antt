-- Reported outcomes of pending instances, and the way on from a waiting state.
pub mod Told
pub mod Way
