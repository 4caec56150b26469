-- What is proved of the definitions. Assumes nothing.
pub mod Bools
pub mod Tells
pub mod Every
pub mod Flags
pub mod Lists
pub mod Parts
pub mod PartsHold
