pub mod Sums
pub mod Printed
pub mod Left
pub mod Back
