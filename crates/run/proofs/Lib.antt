pub mod Opens
pub mod Telling
pub mod Unlearnt
pub mod Laws
