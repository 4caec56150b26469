-- Laws that the proofs of the functions cite.
pub mod Turns
pub mod Fitting
pub mod Laws
