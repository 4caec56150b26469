pub mod Placing
pub mod Rows
pub mod Taking
pub mod Begins
pub mod Laws
