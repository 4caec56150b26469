-- Numbers in bytes, maps of optional fields, and the laws of both.
pub mod Number
pub mod Map
-- Bytes put into a lent buffer
pub mod Puts
