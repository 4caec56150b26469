-- The limits of a plan as tests, and that the tests tell what is in limits.
pub mod Limits
