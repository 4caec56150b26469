-- The form of the records that answer a list of calls.
pub mod Records
