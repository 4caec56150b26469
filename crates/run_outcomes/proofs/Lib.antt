pub mod Telling
pub mod Onward
pub mod Laws
