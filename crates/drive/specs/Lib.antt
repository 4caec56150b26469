-- A list of calls and questions as bytes, and the records that answer it.
pub mod Drive
