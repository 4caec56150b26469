-- The engine's transition, as the functions compute it, goes the way that the theorems about the combined activity ask.
pub mod Plans
