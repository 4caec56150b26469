-- A run as numbers, for a host in C.
pub mod Held
pub mod Inner
