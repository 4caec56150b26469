-- A made-up run as bytes, and what two calls of it answer.
pub mod Made
pub mod Answers
