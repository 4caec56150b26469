-- What the proofs of `activity` share.
pub mod Places
pub mod Sets
pub mod ByKind
pub mod Seeing
pub mod Numbering
pub mod Judging
pub mod Verdicts
pub mod Laws
