-- Answers as numbers, for callers in another language.
pub mod Codes
