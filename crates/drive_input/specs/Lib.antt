-- The form of a list of calls and questions as bytes.
pub mod Input
