-- The limits of what a run stores beside its plan, as tests, and that the tests tell what is in limits.
pub mod Progress
pub mod Window
