-- Lists and chains, for any element type; tests of numbers and flags; the laws that every crate shares.
pub mod Lists
pub mod Parts
pub mod Tests
pub mod Inner
