-- What the proofs share.
pub mod Counting
pub mod Tools
pub mod Laws
