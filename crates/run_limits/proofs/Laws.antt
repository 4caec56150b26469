pub mod Stored
pub mod Places
