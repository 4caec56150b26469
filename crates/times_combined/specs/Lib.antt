-- The combined activity of a word, its times, and the engine's way to them.
pub mod Word
pub mod Combined
pub mod Times
pub mod Paths
