-- Definitions that only inner contracts cite.
pub mod Answers
