-- The log of a list of calls, what it tells, and the host's side.
pub mod Log
pub mod Host
pub mod Drive
pub mod Kept
