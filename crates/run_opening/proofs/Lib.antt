pub mod Filled
pub mod Shortest
pub mod Laws
