-- What inner contracts cite. No statement rests on it.
pub mod Bits
pub mod Closure
pub mod Copied
pub mod Nodes
pub mod Order
pub mod Fits
pub mod Sight
