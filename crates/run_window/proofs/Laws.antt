-- What is proved of the definitions.
pub mod Places
pub mod Firsts
pub mod Order
pub mod Placed
pub mod Placing
pub mod Lowest
pub mod Tests
pub mod Sought
pub mod Content
pub mod Where
pub mod Scans
