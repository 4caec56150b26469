-- The proofs of what Steps.antt says.

pub mod Order
pub mod AllDone
pub mod Events
pub mod Queue
pub mod Left
pub mod Plans
pub mod Seen
pub mod Steps
pub mod Words
