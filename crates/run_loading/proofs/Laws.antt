-- What is proved of the definitions.
pub mod Alike
pub mod Loading
pub mod Spare
pub mod SpareMoves
