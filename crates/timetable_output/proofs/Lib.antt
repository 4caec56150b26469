pub mod Hearing
pub mod Turning
pub mod Printing
pub mod Input
