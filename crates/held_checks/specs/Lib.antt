-- The checks of a call on a run that is given as numbers.
pub mod Inner
