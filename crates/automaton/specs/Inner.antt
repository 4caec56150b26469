-- What inner contracts cite. No statement rests on it.
pub mod Counts
pub mod OnPaths
pub mod Passes
pub mod Scan
