-- The whole verdict on bytes.
pub mod Judge
pub mod Inner
