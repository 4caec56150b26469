-- What a host in C or Rust links.
pub mod Replies
pub mod Host
pub mod Inner
