-- What is proved of the definitions.
pub mod Every
pub mod Files
pub mod Plans
pub mod Shift
pub mod Tells
