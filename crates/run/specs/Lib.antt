-- A run: opening, loading of paths, ask, completion, outcome.
pub mod Numbers
pub mod Limits
pub mod Loading
pub mod Opening
pub mod Calls
pub mod Inner
