-- What inner contracts cite. No statement rests on it.
pub mod Limits
pub mod Checks
