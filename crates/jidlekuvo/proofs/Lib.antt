-- What the proofs share.
pub mod Stepping
pub mod Carrying
pub mod Deciding
pub mod Laws
