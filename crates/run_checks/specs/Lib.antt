-- The checks of a call, over the parts of a run that they need.
pub mod Limits
pub mod Order
-- what holds of them
pub mod Inner
