-- A run that is driven by messages.
pub mod Receive
