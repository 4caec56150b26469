-- Calls and replies as messages.
pub mod Calls
pub mod Replies
