-- What the proofs share.
pub mod Mapped
pub mod MappedPlaces
pub mod Laws
