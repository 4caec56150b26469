pub mod Below
pub mod Loops
