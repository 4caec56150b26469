-- What inner contracts cite. No statement rests on it.
pub mod Calls
pub mod Checks
pub mod Effects
pub mod Loads
